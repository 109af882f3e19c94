-- Loops over the exons and segments: what one element more does to the tests of order, of indexes and of segments.
-- Assumes nothing.
use Prim.Native.Nat.{ℕ, ◌+◌, ◌≤◌, ◌<◌}
use mathlib.Core.Path.{◌≡◌, refl, sym, ◌∙◌, ap}
use mathlib.Core.Bool.{Bool, true, false, ◌&&◌}
use mathlib.Core.List.{List, [], ◌∷◌}
use native.Mathlib.Omega.{arith}
use native.Mathlib.Numerals.{add-one}
use lib.ListN.{length, get_or, drop, set, replicate, get_or-replicate, length-set}
use lib.Seq.{drop-cons, drop-length, get_or-set_same, get_or-set_other}
use lib.Dec.{leb, eqb}
use borrow.Author.Tests.{le-leb, lt-leb, eqb-true, eqb-false}
use Rattle.common.specs.Refuse.{refuse}
use Rattle.common.specs.Lists.{memb}
use Rattle.common.proofs.TestParts.{on_test}
use Rattle.transcript.specs.Orient.{Interval}
use Rattle.transcript.specs.Admission.{ascending, index_fault}
use Rattle.transcript.proofs.Listed.{nowhere}

-- order
module _ (xs : List Interval) (e i : ℕ) (l : i < length xs) where
  order_step : ascending e (drop i xs) ≡ (leb e (get_or xs i nowhere).start && ascending (get_or xs i nowhere).end (drop (i + 1) xs))
  unfolding ascending
  order_step = rw (drop-cons xs i nowhere l, add-one)

  pub order_stop : (get_or xs i nowhere).start < e → ascending e (drop i xs) ≡ false
  order_stop h = order_step ∙ rw (lt-leb e (get_or xs i nowhere).start h)

  pub order_go : e ≤ (get_or xs i nowhere).start → ascending e (drop i xs) ≡ ascending (get_or xs i nowhere).end (drop (i + 1) xs)
  order_go h = order_step ∙ rw (le-leb e (get_or xs i nowhere).start h)

pub order_end : (xs : List Interval) (e i : ℕ) → i ≡ length xs → ascending e (drop i xs) ≡ true
unfolding ascending
order_end xs e i h = ap (λ (l : List Interval). ascending e l) (ap (λ (k : ℕ). drop k xs) h ∙ drop-length xs)

-- indexes: the marks say which were named
pub record Seen (n : ℕ) (is : List ℕ) (seen : List Bool) (i : ℕ) : Type 0 where
  pub within : i ≤ length is
  pub long : length seen ≡ 512
  pub earlier : List ℕ
  pub marks : (k : ℕ) → k < 512 → get_or seen k false ≡ memb k earlier
  pub same : index_fault n earlier (drop i is) ≡ index_fault n [] is

pub seen_start : (n : ℕ) (is : List ℕ) → Seen n is (replicate 512 false) 0
seen_start n is = record { within = omega arith; long = refl; earlier = []; marks = λ k l. get_or-replicate 512 k false false l; same = refl }

module _ (n : ℕ) (is : List ℕ) (seen : List Bool) (i : ℕ) (s : Seen n is seen i) (l : i < length is) where
  index_step : index_fault n s.earlier (drop i is) ≡ refuse (leb n (get_or is i 0)) 8 (refuse (memb (get_or is i 0) s.earlier) 9 (index_fault n (get_or is i 0 ∷ s.earlier) (drop (i + 1) is)))
  unfolding index_fault
  index_step = rw (drop-cons is i 0 l, add-one)

  pub index_missing : n ≤ get_or is i 0 → 8 ≡ index_fault n [] is
  index_missing h = sym (sym s.same ∙ index_step ∙ rw (le-leb n (get_or is i 0) h))

  pub index_again : get_or is i 0 < n → n ≤ 512 → get_or seen (get_or is i 0) false ≡ true → 9 ≡ index_fault n [] is
  index_again h m t = sym (sym s.same ∙ index_step ∙ rw (lt-leb n (get_or is i 0) h, sym (s.marks (get_or is i 0) (omega arith)) ∙ t))

  pub index_go : get_or is i 0 < n → n ≤ 512 → get_or seen (get_or is i 0) false ≡ false → Seen n is (set seen (get_or is i 0) true) (i + 1)
  index_go h m t =
      let g = s.long in
      record {
        within = omega arith;
        long = length-set seen (get_or is i 0) true ∙ s.long;
        earlier = get_or is i 0 ∷ s.earlier;
        marks = λ k b. on_test (eqb k (get_or is i 0))
            (λ e. rw (e, eqb-true k (get_or is i 0) e) (get_or-set_same seen (get_or is i 0) true false (omega arith)))
            (λ e. rw e (get_or-set_other seen (get_or is i 0) k true false (eqb-false k (get_or is i 0) e) ∙ s.marks k b));
        same = sym (index_step ∙ rw (lt-leb n (get_or is i 0) h, sym (s.marks (get_or is i 0) (omega arith)) ∙ t)) ∙ s.same;
      }

pub index_end : (n : ℕ) (is : List ℕ) (seen : List Bool) (i : ℕ) → Seen n is seen i → i ≡ length is → 0 ≡ index_fault n [] is
unfolding index_fault
index_end n is seen i s h = sym (ap (λ (l : List ℕ). index_fault n s.earlier l) (ap (λ (k : ℕ). drop k is) h ∙ drop-length is)) ∙ s.same
