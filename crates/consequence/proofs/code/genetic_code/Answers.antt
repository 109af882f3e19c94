-- 25, and every other number.
use borrow.Author.Tests.{eq-eqb, ne_eqb}
use Rattle.consequence.proofs.code.genetic_code.Goals as goal

pub returns-then-chromosome-eq25 : goal.returns-then-chromosome-eq25
returns-then-chromosome-eq25 c = rw (eq-eqb c.args.chromosome 25 c.if-chromosome-eq25.true)

pub returns : goal.returns
returns c = rw (ne_eqb c.args.chromosome 25 c.if-chromosome-eq25.false)
