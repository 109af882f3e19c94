use Prim.Native.Nat.{◌≤◌}
use native.Mathlib.Omega.{arith}
use lib.ListN.{length}
use Rattle.lines.specs.Line.{answer_line}
use Rattle.lines.proofs.Fitting.{put_whole}
use Rattle.lines.proofs.answer.write_answer.Goals as goal
use Rattle.lines.proofs.answer.write_answer.Goals.{else-out-lt1553-via-then-out-lt1553+else-out-push_answer, else-out-lt1553-via-else-out-lt1553}

pub returns : goal.returns
returns c =
    let a = c.args in
    let p = c.push_answer-2.ensures.pushed in
    let e = p.behind in
    let b = c.push_answer-2.ensures.upper_bound in
    let fits : length (answer_line a.number a.id a.x) ≤ length a.out.now = elim c.else-out-lt1553.branch [
      | else-out-lt1553-via-then-out-lt1553+else-out-push_answer w ↦ (let d = w.push_answer.ensures.pushed.behind in omega arith)
      | else-out-lt1553-via-else-out-lt1553 w ↦ omega arith
    ] in
    put_whole a.out.now (answer_line a.number a.id a.x) fits p
