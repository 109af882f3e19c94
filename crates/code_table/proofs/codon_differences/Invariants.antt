use Rattle.std.proofs.Common.{◌≤◌}
use Rattle.code_table.proofs.codon_differences.Given as goal

-- at most one is counted for each row passed
abbrev pub invariant-loop-row : goal.invariant-loop-row
invariant-loop-row g l = l.count ≤ l.row-index
