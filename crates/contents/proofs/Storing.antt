-- Elements stored at the front of a list, as many as fit.
-- Assumes nothing.
use Prim.Native.Nat.{ℕ, zero, suc, min}
use mathlib.Core.Path.{◌≡◌, refl, ◌∙◌, ap}
use mathlib.Core.List.{List, [], ◌∷◌, ◌++◌}
use native.Mathlib.Omega.{arith}
use lib.ListN.{length, take, drop, set}
use lib.Seq.{sets}

sets_none : {A : Type 0} (i : ℕ) (vs : List A) → sets [] i vs ≡ []
sets_none i [] = refl
sets_none i (v ∷ vs) = sets_none (suc i) vs

sets_behind : {A : Type 0} (x : A) (l : List A) (i : ℕ) (vs : List A) → sets (x ∷ l) (suc i) vs ≡ x ∷ sets l i vs
sets_behind x l i [] = refl
sets_behind x l i (v ∷ vs) = sets_behind x (set l i v) (suc i) vs

pub stored_front : {A : Type 0} (l vs : List A) (n : ℕ) → n ≡ min (length l) (length vs) → sets l 0 vs ≡ take n vs ++ drop n l
stored_front [] vs zero e = sets_none 0 vs
stored_front [] vs (suc n) e = absurd (omega arith)
stored_front (x ∷ l) [] zero e = refl
stored_front (x ∷ l) [] (suc n) e = absurd (omega arith)
stored_front (x ∷ l) (v ∷ vs) zero e = absurd (omega arith)
stored_front (x ∷ l) (v ∷ vs) (suc n) e = sets_behind v l 0 vs ∙ ap (λ (k : List _). v ∷ k) (stored_front l vs n (omega arith))
