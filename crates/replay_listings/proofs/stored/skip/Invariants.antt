use mathlib.Core.Path.{◌≡◌}
use lib.ListN.{length}
use Rattle.replay_listings.proofs.stored.skip.Given as goal

abbrev pub invariant-loop-left : goal.invariant-loop-left
invariant-loop-left g l = 65536 ≡ length l.piece

abbrev pub decreases-loop-left : goal.decreases-loop-left
decreases-loop-left g l = l.left
