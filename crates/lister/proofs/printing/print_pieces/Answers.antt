use Rattle.listing.proofs.Advancing.{piece_less}
use Rattle.lister.proofs.printing.print_pieces.Goals as goal

pub loop-piece-smaller : goal.loop-piece-smaller
loop-piece-smaller g c =
    let a = c.args in
    let l = c.loop-piece in
    piece_less a.files.deck.now a.files.window.now a.files.calls.now l.cursor l.out c.next_piece.ensures.0 c.in-Ok.is c.in-Some.is
