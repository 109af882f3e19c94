use mathlib.Core.Path.{refl, sym}
use Rattle.common.specs.Lists.{concat}
use Rattle.contents.proofs.Chosen.{refused_chosen, accepted_place, accepted_chosen, accepted_columns}
use Rattle.contents.proofs.transcript_at.deck_transcript.Goals as goal

pub returns-in_err-read_deck-clause-lists_after : goal.returns-in_err-read_deck-clause-lists_after
unfolding concat
returns-in_err-read_deck-clause-lists_after c =
    rw (refused_chosen c.args.bytes.now c.args.place (c.in_err-read_deck.ensures {u = tt}).value) (refl, refl, refl, refl, refl, refl, refl, refl)

pub store_place-requires : goal.store_place-requires
store_place-requires c =
    let e = c.in_ok-read_deck.ensures {u = tt} in
    accepted_columns c.args.bytes.now (sym e.value) e.table_after

pub returns-clause-value : goal.returns-clause-value
returns-clause-value c =
    let e = c.in_ok-read_deck.ensures {u = tt} in
    accepted_place c.args.bytes.now (sym e.value) e.table_after c.args.place c.store_place.ensures.value

pub returns-clause-lists_after : goal.returns-clause-lists_after
returns-clause-lists_after c =
    let e = c.in_ok-read_deck.ensures {u = tt} in
    rw (accepted_chosen c.args.bytes.now (sym e.value) e.table_after c.args.place) c.store_place.ensures.lists_after
