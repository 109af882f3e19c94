-- Two lists side by side, read by a place.
-- Assumes nothing.
use Prim.Native.Nat.{ℕ, zero, suc, ◌+◌, ◌≤◌, ◌<◌, min}
use mathlib.Core.Path.{◌≡◌, refl}
use mathlib.Core.Bool.{Bool, false, ◌||◌}
use mathlib.Core.List.{List, [], ◌∷◌}
use native.Mathlib.Omega.{arith}
use native.Mathlib.Numerals.{add-one}
use lib.ListN.{length, get_or, drop}
use Rattle.std.specs.List.{list_any, zip}

module _ (f : ℕ × ℕ → Bool) where
  at_suc : (xs ys : List ℕ) (i : ℕ) → i < length xs → i < length ys
      → list_any f (drop i (zip xs ys)) ≡ (f (get_or xs i 0, get_or ys i 0) || list_any f (drop (suc i) (zip xs ys)))
  at_suc [] ys i a b = absurd (omega arith)
  at_suc (x ∷ xs) [] i a b = absurd (omega arith)
  at_suc (x ∷ xs) (y ∷ ys) zero a b = refl
  at_suc (x ∷ xs) (y ∷ ys) (suc i) a b = at_suc xs ys i (omega arith) (omega arith)

  pub beside_at : (xs ys : List ℕ) (i : ℕ) → i < length xs → i < length ys
      → list_any f (drop i (zip xs ys)) ≡ (f (get_or xs i 0, get_or ys i 0) || list_any f (drop (i + 1) (zip xs ys)))
  beside_at xs ys i a b = rw add-one (at_suc xs ys i a b)

  pub beside_end : (xs ys : List ℕ) (i : ℕ) → min (length xs) (length ys) ≤ i → list_any f (drop i (zip xs ys)) ≡ false
  beside_end [] ys zero a = refl
  beside_end [] ys (suc i) a = refl
  beside_end (x ∷ xs) [] zero a = refl
  beside_end (x ∷ xs) [] (suc i) a = refl
  beside_end (x ∷ xs) (y ∷ ys) zero a = absurd (omega arith)
  beside_end (x ∷ xs) (y ∷ ys) (suc i) a = beside_end xs ys i (omega arith)
