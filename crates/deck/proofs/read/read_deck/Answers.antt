use mathlib.Core.Path.{sym}
use Rattle.std.proofs.lemmas.Result.{err_from_is_err_and}
use Rattle.deck.proofs.Inside.{deck_in}
use Rattle.deck.proofs.Accepted.{refused_answer, refused_table, sound_answer, sound_table}
use Rattle.deck.proofs.read.read_deck.Goals as goal

pub returns-in_err-n-clause-value : goal.returns-in_err-n-clause-value
returns-in_err-n-clause-value c =
    let p = err_from_is_err_and c.from_residual.result c.from_residual.ensures.1 in
    let e = c.in_err-n.ensures {u = tt} in
    rw (p.1, p.2) (refused_answer c.args.d.now (sym e.value))

pub returns-in_err-n-clause-table_after : goal.returns-in_err-n-clause-table_after
returns-in_err-n-clause-table_after c =
    let e = c.in_err-n.ensures {u = tt} in
    refused_table c.args.d.now (sym e.value) c.requires

pub store_rows-requires-clause-in_deck : goal.store_rows-requires-clause-in_deck
store_rows-requires-clause-in_deck c =
    let o = (c.in_ok-n.ensures {u = tt}).order_after in
    rw o.front (deck_in c.args.d.now)

pub returns-clause-value : goal.returns-clause-value
returns-clause-value c =
    let e = c.in_ok-n.ensures {u = tt} in
    sound_answer c.args.d.now (sym e.value) e.order_after.front c.store_rows.ensures c.admit_rows.ensures

pub returns-clause-table_after : goal.returns-clause-table_after
returns-clause-table_after c =
    let e = c.in_ok-n.ensures {u = tt} in
    sound_table c.args.d.now (sym e.value) e.order_after.front c.store_rows.ensures
