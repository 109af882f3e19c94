use native.Mathlib.Omega.{arith}
use Rattle.common.proofs.Stored.{pushed_none, pushed_on}
use Rattle.lines.proofs.Shown.{codon_0, codon_1, codon_2, codon_3}
use Rattle.lines.proofs.columns.push_codon.Goals as goal

pub returns-then-c-eq0 : goal.returns-then-c-eq0
returns-then-c-eq0 c = let a = c.args in rw (codon_0 a.c a.place c.if-c-eq0.true) (pushed_none a.out.now a.at)

pub returns-then-c-eq1 : goal.returns-then-c-eq1
returns-then-c-eq1 c = let a = c.args in rw (codon_1 a.c a.place c.if-c-eq1.true) c.push_shown-second.ensures

pub returns-then-c-eq2 : goal.returns-then-c-eq2
returns-then-c-eq2 c = let a = c.args in rw (codon_2 a.c a.place c.if-c-eq2.true) (pushed_on c.push_shown-second.ensures c.push_shown-third.ensures)

pub returns : goal.returns
returns c = let a = c.args in rw (codon_3 a.c a.place (omega arith)) (pushed_on (pushed_on c.push_shown-second.ensures c.push_shown-third.ensures) c.push_shown.ensures)
