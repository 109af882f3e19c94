use Prim.Native.Nat.{◌*◌, ◌≤◌}
use Rattle.replay_listings.proofs.replay_all.Given as goal

abbrev pub invariant-loop-number : goal.invariant-loop-number
invariant-loop-number g l = (l.bytes ≤ l.number * 4294967296) × (l.different ≤ l.number)
