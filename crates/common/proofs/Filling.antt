-- An array while it is filled from the front: the first values, then zeros.
-- Assumes nothing.
use Prim.Native.Nat.{ℕ, zero, suc, ◌+◌, ◌-◌, ◌≤◌, ◌<◌}
use mathlib.Core.Path.{◌≡◌, refl, sym, ◌∙◌, ap}
use mathlib.Core.List.{List, [], ◌∷◌, ◌++◌, map, append_assoc}
use native.Mathlib.Omega.{arith}
use native.Mathlib.Numerals.{add-one}
use lib.ListN.{length, get_or, take, drop, set, replicate, length-append, length-replicate}
use lib.Seq.{take-suc, take_all, take_at, drop_at, set_split, length-take-le, drop-drop}
use Rattle.common.specs.Stored.{filled}

-- the first i of the values, then zeros up to n
abbrev pub front : List ℕ → ℕ → ℕ → List ℕ
front vs n i = take i vs ++ replicate (n - i) 0

module _ (vs : List ℕ) (n i : ℕ) (fits : i ≤ length vs) where
  pub front_length : i ≤ n → length (front vs n i) ≡ n
  front_length l =
      let a = length-take-le i vs fits in
      let b = length-replicate {A = ℕ} (n - i) 0 in
      length-append (take i vs) (replicate (n - i) 0) ∙ omega arith

  -- one more value
  pub front_step : i < length vs → i < n → (v : ℕ) → v ≡ get_or vs i 0 → set (front vs n i) i v ≡ front vs n (i + 1)
  front_step l k v e =
      let a = length-take-le i vs fits in
      let q : n - i ≡ suc (n - (i + 1)) = omega arith in
      let f = front_length (omega arith) in
      let r = ap (λ (m : ℕ). replicate {A = ℕ} m 0) q in
      let d : drop (suc i) (front vs n i) ≡ replicate (n - (i + 1)) 0
      = (let u : suc i ≡ i + 1 = sym (add-one i) in rw u (sym (drop-drop 1 i (front vs n i)) ∙ ap (drop 1) (drop_at (take i vs) (replicate (n - i) 0) i a ∙ r))) in
      set_split (front vs n i) i v (omega arith)
      ∙ rw (take_at (take i vs) (replicate (n - i) 0) i a, d, e)
      (sym (ap (λ (l : List ℕ). l ++ replicate (n - (i + 1)) 0) (ap (λ (m : ℕ). take m vs) (add-one i) ∙ take-suc vs i 0 l)
      ∙ append_assoc (take i vs) (get_or vs i 0 ∷ []) (replicate (n - (i + 1)) 0)))

  pub front_done : i ≡ length vs → front vs n i ≡ filled n vs
  front_done e = rw (take_all i vs (omega arith), e)

-- a mapped list, at an index
pub map_at : (f : ℕ → ℕ) (xs : List ℕ) (i d e : ℕ) → i < length xs → get_or (map f xs) i e ≡ f (get_or xs i d)
map_at f [] i d e l = absurd (omega arith)
map_at f (x ∷ xs) zero d e l = refl
map_at f (x ∷ xs) (suc i) d e l = map_at f xs i d e (omega arith)
