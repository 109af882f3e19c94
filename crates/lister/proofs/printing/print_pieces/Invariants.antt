use mathlib.Core.Path.{◌≡◌}
use lib.ListN.{length}
use Rattle.listing.specs.Pieces.{steps}
use Rattle.lister.proofs.printing.print_pieces.Given as goal

abbrev pub invariant-loop-piece : goal.invariant-loop-piece
invariant-loop-piece g l = 65536 ≡ length l.out

abbrev pub decreases-loop-piece : goal.decreases-loop-piece
decreases-loop-piece g l = length (steps l.files.deck.now l.files.window.now l.files.calls.now l.cursor)
