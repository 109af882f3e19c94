use Rattle.common.specs.Text.{decimal}
use mathlib.Core.Path.{◌≡◌}
use mathlib.Core.List.{[], ◌∷◌, ◌++◌, append_assoc}
use native.Mathlib.Omega.{arith}
use Rattle.common.proofs.Stored.{pushed_on}
use Rattle.lines.specs.Line.{refusal_line, joined}
use Rattle.lines.proofs.Longest.{refusal_length}
use Rattle.lines.proofs.line.push_refusal.Goals as goal

pub returns : goal.returns
unfolding refusal_line joined
returns c =
    let a = c.args in
    let e : ((decimal a.a ++ (32 ∷ [])) ++ (decimal a.b ++ (32 ∷ []))) ++ (decimal a.c ++ (10 ∷ []))
    ≡ refusal_line a.a a.b a.c = simp append_assoc in
    let q = rw e at (pushed_on (pushed_on c.push_number-second.ensures.pushed c.push_number-third.ensures.pushed) c.push_number.ensures.pushed) in
    let b = q.behind in
    let l = refusal_length a.a a.b a.c in
    record { pushed = q; upper_bound = omega arith }
