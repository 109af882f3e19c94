use Rattle.std.proofs.Common.{◌≤◌, ◌<◌, ◌-◌}
use Rattle.term_table.proofs.compare.Given as goal

abbrev pub invariant-loop-rank : goal.invariant-loop-rank
invariant-loop-rank g l = (1 ≤ l.rank) × (l.rank ≤ 99) × (l.differ < l.rank)

abbrev pub decreases-loop-rank : goal.decreases-loop-rank
decreases-loop-rank g l = 99 - l.rank
