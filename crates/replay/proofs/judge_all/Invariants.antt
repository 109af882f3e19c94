use Rattle.std.proofs.Common.{ℕ, ◌*◌, ◌≤◌, ◌≡◌, length, get_or}
use Rattle.replay.proofs.judge_all.Given as goal

abbrev pub invariant-loop-blocks : goal.invariant-loop-blocks
invariant-loop-blocks g l = record {
  long : 65536 ≡ length l.block;
  kinds : 4 ≡ length l.compared;
  kinds_of_different : 4 ≡ length l.different;
  compared : (k : ℕ) → get_or l.compared k 0 ≤ 4096 * l.blocks;
  different : (k : ℕ) → get_or l.different k 0 ≤ 4096 * l.blocks;
}
