-- A byte's first place.
-- Assumes nothing.
use Prim.Native.Nat.{ℕ, ◌<◌}
use mathlib.Core.Path.{◌≡◌}
use mathlib.Core.List.{List}
use native.Mathlib.Omega.{arith}
use lib.ListN.{length, get_or}
use lib.Dec.{eqb, ltb}
use borrow.Author.Tests.{eqb-true, eqb-false, ltb-false}
use Rattle.std.specs.Prelude.{Option, Some, None, position}
use Rattle.std.specs.List.{position_or_len}
use Rattle.std.proofs.lemmas.List.Quantifiers.{position-Some}
use Rattle.std.proofs.lemmas.List.Sums.{fails_before_first}
use Rattle.common.proofs.TestParts.{on_test}

module _ (b : ℕ) (s : List ℕ) where
  pub found : {k : ℕ} → position (λ x. eqb x b) s ≡ Some k → (k < length s) × (get_or s k 0 ≡ b) × ((j : ℕ) → j < k → get_or s j 0 ≡ b → ⊥)
  found {k} e =
      let h = position-Some (λ x. eqb x b) s k 0 e in
      (h.0, eqb-true (get_or s k 0) b h.1, λ j l. eqb-false (get_or s j 0) b (h.2 j l))

  pub absent : position (λ x. eqb x b) s ≡ None → (j : ℕ) → j < length s → get_or s j 0 ≡ b → ⊥
  absent e j l = on_test (ltb (position_or_len (λ x. eqb x b) s) (length s))
      (λ t. absurd (let z : ◌≡◌ {A = Option ℕ} (Some (position_or_len (λ x. eqb x b) s)) None = rw t at e in let y : ◌≡◌ {A = ℕ} 0 1 = cc in omega arith))
      (λ t. (let h = ltb-false (position_or_len (λ x. eqb x b) s) (length s) t in eqb-false (get_or s j 0) b (fails_before_first (λ x. eqb x b) s j 0 (omega arith))))
