-- The fields of a line, one after the other, and the call that they make.
-- Assumes nothing.
use Prim.Native.Nat.{ℕ, zero, suc, ◌<◌}
use mathlib.Core.Path.{◌≡◌, refl, sym, ◌∙◌}
use mathlib.Core.Bool.{Bool, true, false, cond, not, ◌&&◌}
use mathlib.Core.List.{List, [], ◌∷◌}
use native.Mathlib.Omega.{arith}
use lib.ListN.{length, get_or, take, drop}
use lib.Dec.{eqb}
use borrow.Author.Tests.{eq-eqb, ne_eqb}
use Rattle.std.specs.Prelude.{Some, None}
use Rattle.common.proofs.TestParts.{and_true, true_false, on_test}
use Rattle.lines.specs.Line.{newline, space}
use Rattle.listing.specs.Calls.{onto, fields_of, is_number, is_call, call_of, parse_call}
use Rattle.listing.specs.code.Fields.{is_base, is_last_base}

-- the first space parts the first field from the others
pub fields_cut : (s : List ℕ) (k : ℕ) → k < length s → get_or s k 0 ≡ space → ((j : ℕ) → j < k → get_or s j 0 ≡ space → ⊥)
    → fields_of s ≡ take k s ∷ fields_of (drop (suc k) s)
unfolding fields_of
fields_cut [] k l e h = absurd (omega arith)
fields_cut (b ∷ bs) zero l e h = rw (eq-eqb b space e)
fields_cut (b ∷ bs) (suc k) l e h = rw (ne_eqb b space (h 0 (omega arith)), fields_cut bs k (omega arith) e (λ j m. h (suc j) (omega arith)))

pub fields_last : (s : List ℕ) → ((j : ℕ) → j < length s → get_or s j 0 ≡ space → ⊥) → fields_of s ≡ s ∷ []
unfolding fields_of
fields_last [] h = refl
fields_last (b ∷ bs) h = rw (ne_eqb b space (h 0 (omega arith)), fields_last bs (λ j m. h (suc j) (omega arith)))

fields_some : (s : List ℕ) → 0 < length (fields_of s)
unfolding fields_of
fields_some [] = omega arith
fields_some (b ∷ bs) = here (eqb b space) (fields_of bs)
  where
    here : (t : Bool) (fs : List (List ℕ)) → 0 < length (cond t ([] ∷ fs) (onto b fs))
    here true fs = omega arith
    here false [] = omega arith
    here false (f ∷ fs) = omega arith

-- a space in the fourth field
pub five_fields : (s q r t u : List ℕ) {a b c d : List ℕ} → fields_of s ≡ a ∷ fields_of q → fields_of q ≡ b ∷ fields_of r → fields_of r ≡ c ∷ fields_of t
    → fields_of t ≡ d ∷ fields_of u → length (fields_of s) ≡ 4 → ⊥
five_fields s q r t u e f g h n = let k = fields_some u in let m = rw (e, f, g, h) at n in omega arith

-- an answer where a test passes
module _ {A : Type 0} (x : A) where
  pub test_failed : (b : Bool) → cond b (Some x) None ≡ None → b ≡ false
  test_failed true e = absurd (let z : ◌≡◌ {A = ℕ} 0 1 = cc in omega arith)
  test_failed false e = refl

  pub test_passed : (b : Bool) {y : A} → cond b (Some x) None ≡ Some y → (b ≡ true) × (x ≡ y)
  test_passed true e = (refl, cc)
  test_passed false e = absurd (let z : ◌≡◌ {A = ℕ} 0 1 = cc in omega arith)

-- the four fields of a call
module _ (a b c d : List ℕ) where
  abbrev fs : List (List ℕ)
  fs = a ∷ b ∷ c ∷ d ∷ []

  pub tests : is_call fs ≡ true → (is_number 3 a ≡ true) × (is_number 19 b ≡ true) × (is_base c ≡ true) × (is_last_base d ≡ true)
  unfolding is_call
  tests h =
      let g = and_true _ _ h in
      let f = and_true _ _ g.0 in
      let e = and_true _ _ f.0 in
      let l = and_true _ _ e.0 in
      let k = and_true _ _ l.0 in
      let j = and_true (eqb (length fs) 4 && is_number 3 a) (is_number 19 b) k.0 in
      let o : eqb (length c) 1 ≡ true = k.1 in
      let p : not (eqb (get_or c 0 0) newline) ≡ true = f.1 in
      let q : eqb (length d) 2 ≡ true = l.1 in
      let r : eqb (get_or d 1 0) newline ≡ true = e.1 in
      let s : not (eqb (get_or d 0 0) newline) ≡ true = g.1 in
      ((and_true (eqb (length fs) 4) (is_number 3 a) j.0).1, j.1, rw (o, p), rw (q, r, s))

  pub tested : is_number 3 a ≡ true → is_number 19 b ≡ true → is_base c ≡ true → is_last_base d ≡ true → is_call fs ≡ true
  unfolding is_call
  tested h i j k =
      let f = and_true (eqb (length c) 1) (not (eqb (get_or c 0 0) newline)) j in
      let e = and_true (eqb (length d) 2 && eqb (get_or d 1 0) newline) (not (eqb (get_or d 0 0) newline)) k in
      let g = and_true (eqb (length d) 2) (eqb (get_or d 1 0) newline) e.0 in
      rw (h, i, f.0, f.1, g.0, g.1, e.1)

-- what is read of the fields
module _ (s : List ℕ) {fs : List (List ℕ)} (e : fields_of s ≡ fs) where
  pub malformed : (is_call fs ≡ true → ⊥) → None ≡ parse_call s
  unfolding parse_call
  malformed h = on_test (is_call fs) (λ t. absurd (h t)) (λ t. rw (e, t))

  pub wellformed : is_call fs ≡ true → Some (call_of fs) ≡ parse_call s
  unfolding parse_call
  wellformed h = rw (e, h)

pub other_count : (s : List ℕ) → (length (fields_of s) ≡ 4 → ⊥) → is_call (fields_of s) ≡ true → ⊥
unfolding is_call
other_count s n h = true_false (sym h ∙ rw (ne_eqb (length (fields_of s)) 4 n))
