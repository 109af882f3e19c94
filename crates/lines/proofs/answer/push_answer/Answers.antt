use native.Mathlib.Omega.{arith}
use Rattle.common.proofs.Stored.{pushed_on}
use Rattle.lines.proofs.AnswerLine.{line_parts}
use Rattle.lines.proofs.Longest.{answer_length}
use Rattle.lines.proofs.answer.push_answer.Goals as goal

pub returns : goal.returns
returns c =
    let a = c.args in
    let p = pushed_on c.push_front-a.ensures.pushed c.push_numbers-b.ensures.pushed in
    let q = rw (line_parts a.number a.id a.x) at (pushed_on p c.push_back.ensures.pushed) in
    let b = q.behind in
    let l = answer_length a.number a.id a.x in
    record { pushed = q; upper_bound = omega arith }
