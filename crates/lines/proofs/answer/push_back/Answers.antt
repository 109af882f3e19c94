use native.Mathlib.Omega.{arith}
use Rattle.common.proofs.Stored.{pushed_on}
use Rattle.lines.specs.code.Columns.{back_columns}
use Rattle.lines.proofs.answer.push_back.Goals as goal

pub returns : goal.returns
unfolding back_columns
returns c =
    let k = c.push_codons-a.ensures.upper_bound in
    let l = c.push-b.ensures.behind in
    let m = c.push_letters-c.ensures.upper_bound in
    let n = c.push-d.ensures.behind in
    let t = c.push_terms-e.ensures.upper_bound in
    let u = c.push.ensures.behind in
    record { pushed = pushed_on c.push_codons-a.ensures.pushed (pushed_on c.push-b.ensures (pushed_on c.push_letters-c.ensures.pushed (pushed_on c.push-d.ensures (pushed_on c.push_terms-e.ensures.pushed c.push.ensures)))); upper_bound = omega arith }
