use Rattle.std.proofs.Common.{length, ◌-◌, ◌≤◌}
use Rattle.lister.proofs.write.Output.write_all.Given as goal

-- what is written lies in the bytes
abbrev pub invariant-loop-done : goal.invariant-loop-done
invariant-loop-done g l = l.done ≤ length l.bytes

-- a write that took bytes leaves fewer
abbrev pub decreases-loop-done : goal.decreases-loop-done
decreases-loop-done g l = length l.bytes - l.done
