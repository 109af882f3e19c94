use mathlib.Core.Path.{◌∙◌, ap, sym}
use native.Mathlib.Omega.{arith}
use Rattle.common.specs.Stored.{stored}
use Rattle.contents.proofs.Collecting.{accepted_ids, accepted_count}
use Rattle.contents.proofs.ids.deck_ids.Goals as goal

pub returns-clause-value : goal.returns-clause-value
returns-clause-value c =
    let e = c.in_ok-read_deck.ensures {u = tt} in
    let n = c.push_ids.ensures.0.behind in
    accepted_count c.args.bytes.now (sym e.value) e.table_after (omega arith)

pub returns-clause-ids_after : goal.returns-clause-ids_after
returns-clause-ids_after c =
    let e = c.in_ok-read_deck.ensures {u = tt} in
    c.push_ids.ensures.0.bytes ∙ ap (stored c.args.ids.now 0) (accepted_ids c.args.bytes.now (sym e.value) e.table_after)
