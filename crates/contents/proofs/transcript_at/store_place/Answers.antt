use mathlib.Core.Path.{◌≡◌, refl}
use mathlib.Core.Logic.{inl}
use native.Mathlib.Omega.{arith}
use Rattle.std.specs.Prelude.{Some, None, slice_get}
use Rattle.std.proofs.lemmas.Iterator.Consumers.{YieldsList-from_first, count_from_yields_List}
use Rattle.common.specs.Lists.{concat}
use Rattle.deck.specs.code.Table.{rows_left, transcript_rows}
use Rattle.deck.proofs.RowOrder.{rows_few}
use Rattle.contents.proofs.Chosen.{at_place, none_placed, none_there, one_placed, one_there}
use Rattle.contents.proofs.transcript_at.store_place.Goals as goal
use Rattle.contents.proofs.transcript_at.store_place.Goals.{In_default, In-Some}

none_at : (c : In_default) → slice_get (transcript_rows c.args.table.now) c.args.place ≡ None
none_at c = at_place c.args.table.now c.args.place c.nth.new.self None c.transcripts.ensures c.in_default.ensures.ran

one_at : (c : In-Some) → slice_get (transcript_rows c.args.table.now) c.args.place ≡ Some c.in-Some.rows
one_at c = at_place c.args.table.now c.args.place c.nth.new.self (Some c.in-Some.rows) c.transcripts.ensures c.in-Some.ensures.ran

pub returns-in_default-clause-value : goal.returns-in_default-clause-value
returns-in_default-clause-value c = none_placed c.args.table.now c.args.place (none_at (goal.at.returns-in_default-clause-value c).In_default)

pub returns-in_default-clause-lists_after : goal.returns-in_default-clause-lists_after
unfolding concat
returns-in_default-clause-lists_after c =
    rw (none_there c.args.table.now c.args.place (none_at (goal.at.returns-in_default-clause-lists_after c).In_default)) (refl, refl, refl, refl, refl, refl, refl, refl)

pub count-requires-clause-fits : goal.count-requires-clause-fits
count-requires-clause-fits c = let f = rows_few 4096 c.args.table.now.kinds 0 in let e = c.transcripts-2.ensures in inl (rw e (omega arith))

pub returns-clause-value : goal.returns-clause-value
returns-clause-value c =
    let t = c.args.table.now in
    let n = count_from_yields_List c.transcripts-2.result c.count.result c.count.ensures.ran (YieldsList-from_first (λ x. x) rows_left (transcript_rows t) c.transcripts-2.ensures) in
    one_placed t c.args.place (one_at (goal.at.returns-clause-value c).In-Some) n

pub returns-clause-lists_after : goal.returns-clause-lists_after
returns-clause-lists_after c = rw (one_there c.args.table.now c.args.place (one_at (goal.at.returns-clause-lists_after c).In-Some)) c.store_row.ensures
