-- The records reached and the order in which they were.
-- Assumes nothing.
use Prim.Native.Nat.{ℕ, zero, suc, ◌+◌, ◌≤◌, ◌<◌}
use mathlib.Core.Path.{◌≡◌, refl, sym, ◌∙◌, ap}
use mathlib.Core.Bool.{Bool, true, false, not, ◌||◌}
use mathlib.Core.List.{List, [], ◌∷◌, ◌++◌, reverse_aux}
use native.Mathlib.Omega.{arith}
use native.Mathlib.Numerals.{add-one}
use lib.ListN.{length, get_or, take, set, replicate, length-set, length-take}
use lib.Seq.{get_or-set_same, get_or-set_other, take-set-lt, take-suc-set, get_or-take, length-take-le}
use lib.Dec.{eqb, leb}
use borrow.Author.Tests.{ne_eqb, eqb-true, eqb-false, leb-false}
use Rattle.common.specs.Lists.{memb}
use Rattle.deck.specs.declared.links.Link.{Link}
use Rattle.deck.specs.declared.walk.Trail.{Trail}
use Rattle.deck.specs.Kind.{kind_number}
use Rattle.deck.specs.Records.{record_count, kind_of}
use Rattle.deck.specs.Walk.{bad_link}
use Rattle.deck.specs.code.Trail.{first_trail, with_record, is_bad, free, left, Reached}

free_le : (l : List Bool) → free l ≤ length l
free_le [] = omega arith
free_le (true ∷ xs) = let h = free_le xs in omega arith
free_le (false ∷ xs) = let h = free_le xs in omega arith

free_mark : (l : List Bool) (i : ℕ) → i < length l → get_or l i false ≡ false → suc (free (set l i true)) ≡ free l
free_mark [] i h e = absurd (omega arith)
free_mark (true ∷ xs) zero h e = cc
free_mark (false ∷ xs) zero h e = refl
free_mark (true ∷ xs) (suc i) h e = free_mark xs i (omega arith) e
free_mark (false ∷ xs) (suc i) h e = ap suc (free_mark xs i (omega arith) e)

-- what a good link tells
good : (a b c : Bool) → (a || b || c) ≡ false → (a ≡ false) × (c ≡ false)
good false false false e = (refl, refl)
good false false true e = cc
good false true c e = cc
good true b c e = cc

back_snoc : (xs : List ℕ) (x : ℕ) (ys : List ℕ) → reverse_aux (xs ++ (x ∷ [])) ys ≡ x ∷ reverse_aux xs ys
back_snoc [] x ys = refl
back_snoc (a ∷ xs) x ys = back_snoc xs x (a ∷ ys)

module _ (d : List ℕ) (link : Link) (t : Trail) where
  parts : is_bad d link t ≡ false → (leb (record_count d) link.to ≡ false) × (get_or t.marks link.to false ≡ false)
  parts e = good (leb (record_count d) link.to) (not (eqb (kind_of d link.to) (kind_number link.kind))) (get_or t.marks link.to false) e

  pub good_inside : is_bad d link t ≡ false → link.to < record_count d
  good_inside e = leb-false (record_count d) link.to (parts e).0

  module _ (reached : List ℕ) (h : Reached d t reached) where
    -- the test that the code makes
    pub test_is : bad_link d (kind_number link.kind) link.to reached ≡ is_bad d link t
    test_is = rw (h.marks link.to)

    -- one record more
    module _ (c : record_count d ≤ 4096) (g : is_bad d link t ≡ false) where
      inside : link.to < record_count d
      inside = good_inside g

      pub fewer : suc (left d (with_record t link.to)) ≡ left d t
      fewer =
          let i = inside in
          let l : link.to < length (take (record_count d) t.marks)
          = (let z = length-take-le (record_count d) t.marks (let m = h.marks_long in omega arith) in omega arith) in
          rw (take-set-lt (record_count d) t.marks link.to true i)
          (free_mark (take (record_count d) t.marks) link.to l (rw (get_or-take (record_count d) t.marks link.to false i) (parts g).1))

      pub count_room : t.count < 4096
      count_room = let f = fewer in let r = h.room in omega arith

      marked : (k : ℕ) (s : Bool) → eqb k link.to ≡ s → (s || memb k reached) ≡ get_or (set t.marks link.to true) k false
      marked k true e = let i = inside in let q = eqb-true k link.to e in let l = h.marks_long in rw (q, get_or-set_same t.marks link.to true false (omega arith))
      marked k false e = rw (get_or-set_other t.marks link.to k true false (eqb-false k link.to e)) (h.marks k)

      pub one_more : Reached d (with_record t link.to) (link.to ∷ reached)
      one_more =
          let f = fewer in
          let r = h.room in
          let q = count_room in
          let l = h.order_long in
          let s : take (t.count + 1) (set t.order t.count link.to) ≡ take t.count t.order ++ (link.to ∷ [])
          = rw add-one (take-suc-set t.order t.count link.to (omega arith)) in
          record {
            marks = λ k. marked k (eqb k link.to) refl;
            ordered = rw s (ap (λ (x : List ℕ). link.to ∷ x) h.ordered ∙ sym (back_snoc (take t.count t.order) link.to (0 ∷ [])));
            room = omega arith;
            marks_long = length-set t.marks link.to true ∙ h.marks_long;
            order_long = length-set t.order t.count link.to ∙ l;
          }

-- the head alone
unmarked : (m k : ℕ) → get_or (replicate m false) k false ≡ false
unmarked zero k = refl
unmarked (suc m) zero = refl
unmarked (suc m) (suc k) = unmarked m k

pub head_alone : (d : List ℕ) → 0 < record_count d → Reached d first_trail (0 ∷ [])
head_alone d h = record {
  marks = first;
  ordered = refl;
  room = few (record_count d) h;
  marks_long = refl;
  order_long = refl;
}
  where
    first : (k : ℕ) → (eqb k 0 || false) ≡ get_or first_trail.marks k false
    first zero = refl
    first (suc k) = rw (unmarked 4095 k, ne_eqb (suc k) 0 (λ z. omega arith))

    few : (n : ℕ) → 0 < n → 0 + free (take n first_trail.marks) < n
    few zero h = absurd (omega arith)
    few (suc n) h =
        let z : List Bool = replicate 4095 false in
        let a = free_le (take n z) in
        let b = length-take n z in
        omega arith
