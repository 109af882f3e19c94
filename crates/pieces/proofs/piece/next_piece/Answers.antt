use Rattle.pieces.proofs.Opening.{opened_ready, refused_steps, opened_steps, piece_made}
use Rattle.pieces.proofs.piece.next_piece.Goals as goal

pub invariant_of-fill_lines : goal.invariant_of-fill_lines
invariant_of-fill_lines c =
    let h = opened_ready c.args.files.deck.now c.args.files.window.now c.args.files.calls.now c.requires c.in-Ok.is in
    record { admitted = h.0; indexed = h.1.0 }

pub fill_lines-requires : goal.fill_lines-requires
fill_lines-requires c = (opened_ready c.args.files.deck.now c.args.files.window.now c.args.files.calls.now c.requires c.in-Ok.is).1.1

pub returns-in-Err : goal.returns-in-Err
returns-in-Err c =
    let a = c.args in
    piece_made a.out.now _ (refused_steps a.files.deck.now a.files.window.now a.files.calls.now c.requires a.cursor c.in-Err.is) c.fill_refusal.ensures c.piece_of.ensures

pub returns-in-Ok : goal.returns-in-Ok
returns-in-Ok c =
    let a = c.args in
    piece_made a.out.now _ (opened_steps a.files.deck.now a.files.window.now a.files.calls.now c.requires a.cursor c.in-Ok.is) c.fill_lines.ensures c.piece_of-in-Ok.ensures
