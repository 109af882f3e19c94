use mathlib.Core.Path.{sym, ◌∙◌}
use Rattle.lines.specs.Line.{refusal_line}
use Rattle.pieces.proofs.Filling.{line_both}
use Rattle.pieces.proofs.piece.fill_refusal.Goals as goal

pub returns : goal.returns
returns c =
    let a = c.args in
    let w = c.write_refusal-written in
    rw (sym c.from.ensures, sym (c.from-3.ensures ∙ c.from-2.ensures))
    (line_both a.out.now (refusal_line 0 c.from.result c.from-3.result) a.cursor w.ensures.0 w.ensures.1 c.line_filled.ensures)
