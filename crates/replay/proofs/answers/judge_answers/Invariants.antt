use Rattle.std.proofs.Common.{◌+◌, ◌*◌, ◌≤◌}
use Rattle.replay.proofs.answers.judge_answers.Given as goal

abbrev pub invariant-loop-i : goal.invariant-loop-i
invariant-loop-i g l = (l.different ≤ l.i) × (l.p ≤ 80004 + 64 * l.i)
