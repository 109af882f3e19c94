-- A call on an indexed transcript of a table.
-- Assumes nothing.
use mathlib.Core.Path.{◌≡◌}
use Prim.Native.Nat.{ℕ, ◌≤◌, ◌<◌}
use native.Mathlib.Omega.{arith}
use lib.Dec.{eqb}
use borrow.Author.Tests.{eqb-false}
use Rattle.common.proofs.TestParts.{on_test}
use Rattle.deck.specs.declared.rows.Rows.{Rows}
use Rattle.deck.specs.code.Table.{InOrder}
use Rattle.pieces.specs.code.TableIndex.{cds_row}

-- the sums of the CDS begin inside the table
pub row_low : (r : Rows) → InOrder r → cds_row r < 4096
row_low r h =
    let a = h.0 in let b = h.1 in let c = h.2 in let d = h.3 in let f = h.4 in
    on_test (eqb r.bounds r.exons) (λ e. rw e (omega arith)) (λ e. rw e (inside r.bounds r.exons (omega arith) (omega arith) (eqb-false r.bounds r.exons e)))
  where
    inside : (b x : ℕ) → x ≤ b → b ≤ 4096 → (b ≡ x → ⊥) → x < 4096
    inside b x l m n = omega arith
