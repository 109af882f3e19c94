use mathlib.Core.Path.{◌∙◌, ap}
use native.Mathlib.Omega.{arith}
use Rattle.std.specs.Prelude.{Err}
use Rattle.deck.proofs.Ending.{ends_low, ends_all}
use Rattle.deck.proofs.walk.Trail.walk.Goals as goal

pub returns-then-low-count-clause-value : goal.returns-then-low-count-clause-value
returns-then-low-count-clause-value c =
    ap Err c.link_refusal.ensures
    ∙ ends_low c.args.d.bytes.now c.walk_transcripts.new.self (c.in_ok-walk_transcripts.ensures {u = tt}) (omega arith) c.first_unreached-low.result (rw c.count-count.ensures at c.first_unreached-low.ensures) (rw c.count-count.ensures at c.if-low-count.true)

pub returns-clause-value : goal.returns-clause-value
returns-clause-value c =
    ends_all c.args.d.bytes.now c.walk_transcripts.new.self (c.in_ok-walk_transcripts.ensures {u = tt}) (omega arith) c.first_unreached-low.result (rw c.count-count.ensures at c.first_unreached-low.ensures) (rw c.count-count.ensures at c.if-low-count.false)
