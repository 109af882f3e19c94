use mathlib.Core.Path.{◌≡◌}
use lib.ListN.{length}
use Rattle.listing.specs.Pieces.{steps}
use Rattle.replay_listings.proofs.whole.compare_listing.Given as goal

abbrev pub invariant-loop-piece : goal.invariant-loop-piece
invariant-loop-piece g l = 4096 ≡ length l.out

abbrev pub decreases-loop-piece : goal.decreases-loop-piece
decreases-loop-piece g l = length (steps l.files.deck.now l.files.window.now l.files.calls.now l.cursor)
