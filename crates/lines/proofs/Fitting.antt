-- A line that is known to fit, put into a lent buffer.
-- Assumes nothing.
use Prim.Native.Nat.{ℕ, ◌≤◌}
use mathlib.Core.Path.{◌≡◌, refl, ◌∙◌}
use mathlib.Core.List.{List}
use native.Mathlib.Omega.{arith}
use lib.ListN.{length}
use borrow.Author.Tests.{le-leb}
use Rattle.std.specs.Prelude.{Result, Ok}
use Rattle.common.specs.declared.refusal.Refusal.{Refusal}
use Rattle.common.specs.Stored.{Pushed}
use Rattle.common.proofs.Stored.{stored_whole}
use Rattle.lines.specs.Line.{write_answer, written_to}

pub put_whole : (out line : List ℕ) {after : List ℕ} {n : ℕ} → length line ≤ length out → Pushed out 0 line after n
    → (◌≡◌ {A = Result ℕ Refusal} (Ok n) (write_answer out line)) × (after ≡ written_to out line)
put_whole out line {after} {n} h q =
    let b = q.behind in
    let e : n ≡ length line = omega arith in
    rw (e, le-leb (length line) (length out) h) (refl, q.bytes ∙ stored_whole out line h)
