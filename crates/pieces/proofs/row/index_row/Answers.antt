use native.Mathlib.Omega.{arith}
use Rattle.pieces.proofs.IndexRows.{exons_fit, segments_fit}
use Rattle.pieces.proofs.row.index_row.Goals as goal

pub index_transcript-requires-clause-room : goal.index_transcript-requires-clause-room
index_transcript-requires-clause-room c =
    let a = c.args in
    let f = exons_fit a.table.now a.rows c.requires.in_order c.transcript-transcript.result c.transcript-transcript.ensures c.requires.admitted in
    let n = c.requires.in_order.2 in
    let m = c.requires.in_order.3 in
    let o = c.requires.in_order.4 in
    let l = c.requires.in_order.1 in
    (f, omega arith)

pub index_transcript-requires-clause-cds_room : goal.index_transcript-requires-clause-cds_room
index_transcript-requires-clause-cds_room c = λ l.
    let a = c.args in
    let f = segments_fit a.table.now a.rows c.requires.in_order c.transcript-transcript.result c.transcript-transcript.ensures c.requires.admitted l in
    let o = c.requires.in_order.4 in
    omega arith
