use Rattle.std.proofs.lemmas.Option.{unwrap_or-slice_get}
use Rattle.deck.proofs.Edges.{plus_edges, minus_edges}
use Rattle.deck.proofs.rows.tx_bounds.Goals as goal

pub returns-in-Plus : goal.returns-in-Plus
returns-in-Plus c =
    let a = c.args in
    rw (c.unwrap_or.ensures, c.copied.ensures, c.first.ensures.value, unwrap_or-slice_get, c.unwrap_or-in-Plus.ensures, c.copied-in-Plus.ensures, c.last.ensures.value, unwrap_or-slice_get, c.in-Plus.is)
    (plus_edges a.starts.now a.ends.now c.requires)

pub returns-in-Minus : goal.returns-in-Minus
returns-in-Minus c =
    let a = c.args in
    rw (c.unwrap_or-in-Minus.ensures, c.copied-in-Minus.ensures, c.last-in-Minus.ensures.value, unwrap_or-slice_get, c.unwrap_or-in-Minus-2.ensures, c.copied-in-Minus-2.ensures, c.first-in-Minus.ensures.value, unwrap_or-slice_get, c.in-Minus.is)
    (minus_edges a.starts.now a.ends.now c.requires)
