use Prim.Native.Nat.{◌≤◌}
use native.Mathlib.Omega.{arith}
use lib.ListN.{length}
use Rattle.lines.specs.Line.{refusal_line}
use Rattle.lines.proofs.Fitting.{put_whole}
use Rattle.lines.proofs.line.write_refusal.Goals as goal
use Rattle.lines.proofs.line.write_refusal.Goals.{else-out-lt63-via-then-out-lt63+else-out-push_refusal, else-out-lt63-via-else-out-lt63}

pub returns : goal.returns
returns c =
    let a = c.args in
    let p = c.push_refusal-2.ensures.pushed in
    let e = p.behind in
    let b = c.push_refusal-2.ensures.upper_bound in
    let fits : length (refusal_line a.a a.b a.c) ≤ length a.out.now = elim c.else-out-lt63.branch [
      | else-out-lt63-via-then-out-lt63+else-out-push_refusal w ↦ (let d = w.push_refusal.ensures.pushed.behind in omega arith)
      | else-out-lt63-via-else-out-lt63 w ↦ omega arith
    ] in
    put_whole a.out.now (refusal_line a.a a.b a.c) fits p
