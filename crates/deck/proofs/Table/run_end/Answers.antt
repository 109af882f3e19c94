use mathlib.Core.Path.{sym, ◌∙◌}
use mathlib.Core.Bool.{not}
use native.Mathlib.Omega.{arith}
use lib.ListN.{get_or}
use lib.Dec.{eqb}
use borrow.Author.Tests.{eq-eqb, ne_eqb}
use Rattle.deck.proofs.Lowest.{lowest_on, lowest_here}
use Rattle.deck.proofs.Table.run_end.Goals as goal

pub returns-then-self-i : goal.returns-then-self-i
returns-then-self-i c =
    let t = c.args.self.now.kinds in
    let k = c.from-byte.result in
    let i = c.loop-i.i in
    rw (← c.from-byte.ensures) (sym (lowest_here (λ j. not (eqb (get_or t j 0) k)) 4096 i (omega arith) (rw (ne_eqb (get_or t i 0) k c.if-self-i.true))) ∙ c.loop-i.invariant)

pub loop-i-preserved : goal.loop-i-preserved
loop-i-preserved c =
    let t = c.args.self.now.kinds in
    let k = c.from-byte.result in
    let i = c.loop-i.i in
    sym (lowest_on (λ j. not (eqb (get_or t j 0) k)) 4096 i (omega arith) (rw (eq-eqb (get_or t i 0) k c.if-self-i.false))) ∙ c.loop-i.invariant
