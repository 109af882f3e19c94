-- The splice mark in the longer is the shorter's, or is gained at an outer end beyond which an exon was added.
use Prim.Native.Nat.{ℕ, zero, suc, ◌+◌, ◌-◌, ◌≤◌, ◌<◌}
use mathlib.Core.Path.{◌≡◌, refl, sym, ◌∙◌}
use mathlib.Core.Bool.{Bool, true, false, cond, ◌&&◌, ◌||◌}
use mathlib.Core.List.{List}
use mathlib.Core.Logic.{⊎_elim}
use native.Mathlib.Omega.{arith}
use native.Mathlib.Nat.{eq-or-lt_of_le}
use lib.Dec.{leb, ltb, eqb}
use lib.ListN.{length}
use borrow.Author.Tests.{lt-ltb, le-ltb, le-leb, leb-true, eq-eqb, ne_eqb}
use Rattle.common.proofs.TestParts.{and_true, or_true, or_right}
use Rattle.transcript.specs.Orient.{Interval, interval}
use Rattle.locate.specs.Place.{is_exonic_splice_region}
use Rattle.demands.specs.Longer.{near_ends}

absorb : (d g : Bool) → (g ≡ true → d ≡ true) → d ≡ (d || g)
absorb true g h = refl
absorb false true h = h refl
absorb false false h = refl

or_swap : (d g a h : Bool) → ((d || g) || (a || h)) ≡ ((d || a) || (h || g))
or_swap true g a h = refl
or_swap false true true h = refl
or_swap false true false true = refl
or_swap false true false false = refl
or_swap false false true h = refl
or_swap false false false true = refl
or_swap false false false false = refl

-- n exons before, m after, N of the shorter; exon i of the shorter at [s, e)
module _ (n m N b f p : ℕ) where
  -- the side towards the exons after it
  donor_last : (i e : ℕ) → suc i ≡ N
      → (ltb (suc (i + n)) (N + (n + m)) && leb (cond (eqb (suc i) N) f e - p) 3) ≡ ((ltb (suc i) N && leb (e - p) 3) || (ltb 0 m && leb (f - p) 3))
  donor_last i e q = rw (eq-eqb (suc i) N q, le-ltb (suc i) N (omega arith), more m)
    where
      more : (m : ℕ) → ltb (suc (i + n)) (N + (n + m)) ≡ ltb 0 m
      more zero = le-ltb (suc (i + n)) (N + (n + 0)) (omega arith) ∙ sym (le-ltb 0 0 (omega arith))
      more (suc m) = lt-ltb (suc (i + n)) (N + (n + suc m)) (omega arith) ∙ sym (lt-ltb 0 (suc m) (omega arith))

  donor_inner : (i e : ℕ) → suc i < N → e ≤ f
      → (ltb (suc (i + n)) (N + (n + m)) && leb (cond (eqb (suc i) N) f e - p) 3) ≡ ((ltb (suc i) N && leb (e - p) 3) || (ltb 0 m && leb (f - p) 3))
  donor_inner i e l h =
      rw (ne_eqb (suc i) N (λ q. omega arith), lt-ltb (suc i) N l, lt-ltb (suc (i + n)) (N + (n + m)) (omega arith))
      (absorb (leb (e - p) 3) (ltb 0 m && leb (f - p) 3) (λ g. let t = leb-true (f - p) 3 (and_true (ltb 0 m) (leb (f - p) 3) g).1 in le-leb (e - p) 3 (omega arith)))

  donor : (i e : ℕ) → i < N → e ≤ f
      → (ltb (suc (i + n)) (N + (n + m)) && leb (cond (eqb (suc i) N) f e - p) 3) ≡ ((ltb (suc i) N && leb (e - p) 3) || (ltb 0 m && leb (f - p) 3))
  donor i e l h = ⊎_elim (λ q. donor_last i e q) (λ q. donor_inner i e q h) (eq-or-lt_of_le l)

  -- the side towards the exons before it
  acceptor_first : (s : ℕ) → (ltb 0 (0 + n) && leb (p - b + 1) 3) ≡ ((ltb 0 0 && leb (p - s + 1) 3) || (ltb 0 n && leb (p - b + 1) 3))
  acceptor_first s = let z : 0 + n ≡ n = omega arith in rw z

  acceptor_inner : (i s : ℕ) → b ≤ s → (ltb 0 (suc i + n) && leb (p - s + 1) 3) ≡ ((ltb 0 (suc i) && leb (p - s + 1) 3) || (ltb 0 n && leb (p - b + 1) 3))
  acceptor_inner i s h =
      rw (lt-ltb 0 (suc i + n) (omega arith), lt-ltb 0 (suc i) (omega arith))
      (absorb (leb (p - s + 1) 3) (ltb 0 n && leb (p - b + 1) 3) (λ g. let t = leb-true (p - b + 1) 3 (and_true (ltb 0 n) (leb (p - b + 1) 3) g).1 in le-leb (p - s + 1) 3 (omega arith)))

module _ (before after : List Interval) (N b f p : ℕ) where
  pub mark_first : (x : Interval) → 0 < N → x.end ≤ f
      → is_exonic_splice_region (N + (length before + length after)) (0 + length before) (interval b (cond (eqb 1 N) f x.end)) p ≡ (is_exonic_splice_region N 0 x p || near_ends before after b f p)
  mark_first x l h =
      rw (donor (length before) (length after) N b f p 0 x.end l h, acceptor_first (length before) (length after) N b f p x.start)
      (or_swap (ltb 1 N && leb (x.end - p) 3) (ltb 0 (length after) && leb (f - p) 3) (ltb 0 0 && leb (p - x.start + 1) 3) (ltb 0 (length before) && leb (p - b + 1) 3))

  pub mark_inner : (i : ℕ) (x : Interval) → suc i < N → b ≤ x.start → x.end ≤ f
      → is_exonic_splice_region (N + (length before + length after)) (suc i + length before) (interval x.start (cond (eqb (suc (suc i)) N) f x.end)) p ≡ (is_exonic_splice_region N (suc i) x p || near_ends before after b f p)
  mark_inner i x l g h =
      rw (donor (length before) (length after) N b f p (suc i) x.end l h, acceptor_inner (length before) (length after) N b f p i x.start g)
      (or_swap (ltb (suc (suc i)) N && leb (x.end - p) 3) (ltb 0 (length after) && leb (f - p) 3) (ltb 0 (suc i) && leb (p - x.start + 1) 3) (ltb 0 (length before) && leb (p - b + 1) 3))

-- a gained mark is near an outer end of the shorter, whose edges are s and e
pub near_outer : (before after : List Interval) (b f s e p : ℕ) → b ≤ s → e ≤ f → near_ends before after b f p ≡ true → near_ends before after s e p ≡ true
near_outer before after b f s e p h l g = ⊎_elim five three (or_true (ltb 0 (length before) && leb (p - b + 1) 3) (ltb 0 (length after) && leb (f - p) 3) g)
  where
    five : (ltb 0 (length before) && leb (p - b + 1) 3) ≡ true → near_ends before after s e p ≡ true
    five q =
        let c = and_true (ltb 0 (length before)) (leb (p - b + 1) 3) q in
        let t = leb-true (p - b + 1) 3 c.1 in
        rw (c.0, le-leb (p - s + 1) 3 (omega arith))

    three : (ltb 0 (length after) && leb (f - p) 3) ≡ true → near_ends before after s e p ≡ true
    three q =
        let c = and_true (ltb 0 (length after)) (leb (f - p) 3) q in
        let t = leb-true (f - p) 3 c.1 in
        or_right (ltb 0 (length before) && leb (p - s + 1) 3) (ltb 0 (length after) && leb (e - p) 3) (rw (c.0, le-leb (e - p) 3 (omega arith)))
