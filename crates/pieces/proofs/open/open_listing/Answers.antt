use Rattle.pieces.proofs.Admitting.{table_admitted, opened_is}
use Rattle.std.proofs.lemmas.Result.{err_from_is_err_and}
use Rattle.pieces.proofs.open.open_listing.Goals as goal

pub returns-in_err-judge : goal.returns-in_err-judge
returns-in_err-judge c =
    let a = c.args in
    let r = c.read_deck-answer in
    let p = err_from_is_err_and c.from_residual.result c.from_residual.ensures.1 in
    rw (p.1, p.2) (opened_is a.files.deck.now a.files.window.now a.files.calls.now r.ensures.value c.judge.ensures c.in_err-judge.was r.ensures.table_after c.requires.index_before)

pub index_table-requires-clause-all_admitted : goal.index_table-requires-clause-all_admitted
index_table-requires-clause-all_admitted c =
    let a = c.args in
    let r = c.read_deck-answer in
    table_admitted a.files.deck.now a.files.window.now a.files.calls.now r.ensures.value c.judge.ensures c.in_ok-judge.was r.ensures.table_after

pub returns : goal.returns
returns c =
    let a = c.args in
    let r = c.read_deck-answer in
    opened_is a.files.deck.now a.files.window.now a.files.calls.now r.ensures.value c.judge.ensures c.in_ok-judge.was r.ensures.table_after c.index_table.ensures
