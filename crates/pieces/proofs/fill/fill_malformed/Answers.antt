use mathlib.Core.Path.{refl}
use native.Mathlib.Omega.{arith}
use Rattle.lines.specs.Line.{refusal_line}
use Rattle.listing.proofs.Packing.{pack_none}
use Rattle.pieces.proofs.Filling.{line_both, malformed_here, malformed_behind}
use Rattle.pieces.proofs.fill.fill_malformed.Goals as goal

pub returns-then-cursor-ne0 : goal.returns-then-cursor-ne0
returns-then-cursor-ne0 c = let a = c.args in rw (malformed_behind a.number a.cursor.at a.cursor.entry c.if-cursor-ne0.true, pack_none) (refl, refl)

pub returns : goal.returns
returns c =
    let a = c.args in
    let w = c.write_refusal-written in
    rw (malformed_here a.number a.cursor.at a.cursor.entry (omega arith)) (line_both a.out.now (refusal_line a.number 0 26) a.cursor w.ensures.0 w.ensures.1 c.line_filled.ensures)
