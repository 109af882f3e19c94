use Rattle.std.proofs.Common.{◌+◌, ◌*◌, ◌≤◌}
use Rattle.code_table.proofs.altered_differences.Given as goal

-- at most one is counted for each altered codon passed
abbrev pub invariant-loop-row : goal.invariant-loop-row
invariant-loop-row g l = l.count ≤ 12 * l.row-index

abbrev pub invariant-loop-place : goal.invariant-loop-place
invariant-loop-place g l = l.count ≤ 12 * l.row-index + 4 * l.place

abbrev pub invariant-loop-base : goal.invariant-loop-base
invariant-loop-base g l = l.count ≤ 12 * l.row-index + 4 * l.place + l.base-index
