-- The loop that compares segments with the cuts of the exons: what one exon more does to the comparison.
-- Assumes nothing.
use Prim.Native.Nat.{ℕ, zero, suc, ◌+◌, ◌≤◌, ◌<◌}
use mathlib.Core.Path.{◌≡◌, refl, ◌∙◌, ap}
use mathlib.Core.Bool.{Bool, true, false, ◌&&◌}
use mathlib.Core.List.{List, [], ◌∷◌}
use native.Mathlib.Omega.{arith}
use native.Mathlib.Numerals.{add-one}
use lib.ListN.{length, get_or, drop}
use lib.Seq.{drop-cons, drop-length}
use lib.Dec.{ltb, eqb}
use borrow.Author.Tests.{lt-ltb, le-ltb, eqb-true, eqb-false}
use Rattle.common.proofs.TestParts.{on_test}
use Rattle.transcript.specs.declared.Strand.{Strand}
use Rattle.transcript.specs.Orient.{Interval, orient}
use Rattle.transcript.specs.Cuts.{Cut, cut_at, meet, cuts, same_cut, same_cuts}
use Rattle.transcript.specs.code.Lent.{listed_cuts}
use Rattle.transcript.proofs.Listed.{nowhere}

-- segments that are lent apart, at an index
module _ (σ : Strand) where
  pub listed_length : (is ss es : List ℕ) → length ss ≡ length is → length ss ≡ length es → length (listed_cuts σ is ss es) ≡ length is
  unfolding listed_cuts
  listed_length [] ss es h q = refl
  listed_length (i ∷ is) [] es h q = absurd (omega arith)
  listed_length (i ∷ is) (s ∷ ss) [] h q = absurd (omega arith)
  listed_length (i ∷ is) (s ∷ ss) (e ∷ es) h q = ap suc (listed_length is ss es (omega arith) (omega arith))

  pub listed_at : (is ss es : List ℕ) (k : ℕ) → length ss ≡ length is → length ss ≡ length es → k < length is
      → get_or (listed_cuts σ is ss es) k (cut_at 0 nowhere) ≡ cut_at (get_or is k 0) (orient σ (get_or ss k 0) (get_or es k 0))
  unfolding listed_cuts
  listed_at [] ss es k h q l = absurd (omega arith)
  listed_at (i ∷ is) [] es k h q l = absurd (omega arith)
  listed_at (i ∷ is) (s ∷ ss) [] k h q l = absurd (omega arith)
  listed_at (i ∷ is) (s ∷ ss) (e ∷ es) zero h q l = refl
  listed_at (i ∷ is) (s ∷ ss) (e ∷ es) (suc k) h q l = listed_at is ss es k (omega arith) (omega arith) (omega arith)

-- an exon whose cut is empty is passed; another adds its cut
module _ (cds : Interval) (xs : List Interval) (i : ℕ) (l : i < length xs) where
  cuts_step : ltb (meet (get_or xs i nowhere) cds).start (meet (get_or xs i nowhere) cds).end ≡ false → cuts cds i (drop i xs) ≡ cuts cds (i + 1) (drop (i + 1) xs)
  unfolding cuts
  cuts_step h = rw (drop-cons xs i nowhere l, add-one, h)

  cuts_more : ltb (meet (get_or xs i nowhere) cds).start (meet (get_or xs i nowhere) cds).end ≡ true → cuts cds i (drop i xs) ≡ cut_at i (meet (get_or xs i nowhere) cds) ∷ cuts cds (i + 1) (drop (i + 1) xs)
  unfolding cuts
  cuts_more h = rw (drop-cons xs i nowhere l, add-one, h)

-- the comparison from segment k and exon i on
module _ (cs : List Cut) (cds : Interval) (xs : List Interval) (k i : ℕ) where
  abbrev pub rest : Bool
  rest = same_cuts (drop k cs) (cuts cds i (drop i xs))

  abbrev pub here : Interval
  here = meet (get_or xs i nowhere) cds

  pub cut_pass : i < length xs → here.end ≤ here.start → rest ≡ same_cuts (drop k cs) (cuts cds (i + 1) (drop (i + 1) xs))
  cut_pass l h = ap (same_cuts (drop k cs)) (cuts_step cds xs i l (le-ltb here.start here.end h))

  -- no segment is left
  pub cut_lacks : i < length xs → here.start < here.end → k ≡ length cs → rest ≡ false
  unfolding same_cuts
  cut_lacks l h e = rw (cuts_more cds xs i l (lt-ltb here.start here.end h), ap (λ (n : ℕ). drop n cs) e ∙ drop-length cs)

  module _ (l : i < length xs) (h : here.start < here.end) (m : k < length cs) (c : Cut) (at : get_or cs k (cut_at 0 nowhere) ≡ c) where
    compare : rest ≡ (same_cut c (cut_at i here) && same_cuts (drop (k + 1) cs) (cuts cds (i + 1) (drop (i + 1) xs)))
    unfolding same_cuts
    compare = rw (cuts_more cds xs i l (lt-ltb here.start here.end h), drop-cons cs k (cut_at 0 nowhere) m, at, add-one i, add-one k)

    pub cut_differs : same_cut c (cut_at i here) ≡ false → rest ≡ false
    cut_differs n = compare ∙ ap (λ (b : Bool). b && same_cuts (drop (k + 1) cs) (cuts cds (i + 1) (drop (i + 1) xs))) n

    pub cut_same : same_cut c (cut_at i here) ≡ true → rest ≡ same_cuts (drop (k + 1) cs) (cuts cds (i + 1) (drop (i + 1) xs))
    cut_same n = compare ∙ ap (λ (b : Bool). b && same_cuts (drop (k + 1) cs) (cuts cds (i + 1) (drop (i + 1) xs))) n

  -- no exon is left: the segments are at their end too
  pub cut_end : i ≡ length xs → k ≤ length cs → rest ≡ eqb k (length cs)
  unfolding same_cuts cuts
  cut_end e m =
      ap (λ (ys : List Interval). same_cuts (drop k cs) (cuts cds i ys)) (ap (λ (n : ℕ). drop n xs) e ∙ drop-length xs) ∙
      on_test (eqb k (length cs))
      (λ q. rw (q, ap (λ (n : ℕ). drop n cs) (eqb-true k (length cs) q) ∙ drop-length cs))
      (λ q. (let n = eqb-false k (length cs) q in rw (q, drop-cons cs k (cut_at 0 nowhere) (omega arith))))
