use Rattle.std.proofs.Common.{length, ◌-◌, ◌≡◌, ◌≤◌}
use Rattle.lister.proofs.files.read_to_end.Given as goal

-- what is filled lies in the buffer, which keeps its length
abbrev pub invariant-loop-filled : goal.invariant-loop-filled
invariant-loop-filled g l = (l.filled ≤ length l.into) × (length l.into ≡ length l.initial.into)

-- a read that gave bytes leaves less room
abbrev pub decreases-loop-filled : goal.decreases-loop-filled
decreases-loop-filled g l = length l.initial.into - l.filled
