-- The gaps between exons, at an index, and whether a gap is short.
-- Assumes nothing.
use Prim.Native.Nat.{ℕ, zero, suc, ◌+◌, ◌-◌, ◌≤◌, ◌<◌, min}
use mathlib.Core.Path.{◌≡◌, refl, sym, ◌∙◌, ap}
use mathlib.Core.Bool.{false, not}
use mathlib.Core.List.{List, [], ◌∷◌}
use native.Mathlib.Omega.{arith}
use native.Mathlib.Numerals.{add-one}
use lib.ListN.{length, get_or, get_or-eq_default}
use lib.Dec.{ltb}
use borrow.Author.Tests.{ltb-false}
use Rattle.common.specs.Lists.{any}
use Rattle.common.proofs.TestParts.{or_false}
use Rattle.common.proofs.Lists.{any_none}
use Rattle.transcript.specs.declared.Strand.{Strand}
use Rattle.transcript.specs.Orient.{Interval, interval, orient}
use Rattle.transcript.specs.Bases.{gaps_after, gaps}
use Rattle.transcript.specs.Limits.{top, coordinate_limit}
use Rattle.transcript.specs.Transcript.{exons_of}
use Rattle.transcript.specs.Admission.{bad_exon}
use Rattle.transcript.proofs.Listed.{nowhere, exon}
use Rattle.transcript.proofs.Orient.{orient_high}
use Rattle.transcript.specs.code.Lent.{lent_exons}
use Rattle.footprint.specs.code.Lent.{lent_gaps}

after_length : (e : ℕ) (xs : List Interval) → length (gaps_after e xs) ≡ length xs
unfolding gaps_after
after_length e [] = refl
after_length e (x ∷ xs) = ap suc (after_length x.end xs)

pub gaps_length : (xs : List Interval) → length (gaps xs) ≡ length xs - 1
gaps_length [] = refl
gaps_length (x ∷ xs) = let n = after_length x.end xs in omega arith

pub gaps_at : (xs : List Interval) (k : ℕ) → suc k < length xs → get_or (gaps xs) k nowhere ≡ interval (get_or xs k nowhere).end (get_or xs (suc k) nowhere).start
unfolding gaps_after
gaps_at [] k l = absurd (omega arith)
gaps_at (x ∷ []) k l = absurd (omega arith)
gaps_at (x ∷ y ∷ ys) zero l = refl
gaps_at (x ∷ y ∷ ys) (suc k) l = gaps_at (y ∷ ys) k (omega arith)

-- of exons that are lent as two lists; the shorter one decides
lent_count : (σ : Strand) (ss es : List ℕ) → length (lent_exons σ ss es) ≡ min (length ss) (length es)
unfolding exons_of
lent_count σ [] es = omega arith
lent_count σ (s ∷ ss) [] = omega arith
lent_count σ (s ∷ ss) (e ∷ es) = let n = lent_count σ ss es in omega arith

lent_at : (σ : Strand) (ss es : List ℕ) (k : ℕ) → k < length ss → k < length es → get_or (lent_exons σ ss es) k nowhere ≡ orient σ (get_or ss k 0) (get_or es k 0)
unfolding exons_of
lent_at σ [] es k l m = absurd (omega arith)
lent_at σ (s ∷ ss) [] k l m = absurd (omega arith)
lent_at σ (s ∷ ss) (e ∷ es) zero l m = refl
lent_at σ (s ∷ ss) (e ∷ es) (suc k) l m = lent_at σ ss es k (omega arith) (omega arith)

-- good edges
pub end_low : (ss es : List ℕ) (k : ℕ) → any bad_exon (exons_of ss es) ≡ false → k < length ss → k < length es → get_or es k 0 ≤ coordinate_limit
unfolding exons_of
end_low [] es k h l m = absurd (omega arith)
end_low (s ∷ ss) [] k h l m = absurd (omega arith)
end_low (s ∷ ss) (e ∷ es) zero h l m =
    let n = any_none bad_exon (exon s e) (exons_of ss es) h in
    ltb-false coordinate_limit e (or_false (not (ltb s e)) (ltb coordinate_limit e) n.0).1
end_low (s ∷ ss) (e ∷ es) (suc k) h l m = end_low ss es k (any_none bad_exon (exon s e) (exons_of ss es) h).1 (omega arith) (omega arith)

module _ (σ : Strand) (ss es : List ℕ) where
  pub gap_count : length (lent_gaps σ ss es) ≡ min (length ss) (length es) - 1
  gap_count = gaps_length (lent_exons σ ss es) ∙ ap (λ (n : ℕ). n - 1) (lent_count σ ss es)

  pub gap_at : (k : ℕ) → k + 1 < length ss → k + 1 < length es
      → get_or (lent_gaps σ ss es) k nowhere ≡ interval (orient σ (get_or ss k 0) (get_or es k 0)).end (orient σ (get_or ss (k + 1) 0) (get_or es (k + 1) 0)).start
  gap_at k l m =
      let n = lent_count σ ss es in
      gaps_at (lent_exons σ ss es) k (omega arith)
      ∙ rw (← add-one k, lent_at σ ss es k (omega arith) (omega arith), lent_at σ ss es (k + 1) l m)

  -- an index that a loop over the gaps reads, and the one at which it ends
  pub gap_in : (k : ℕ) → k + 1 < length ss → k + 1 < length es → k < length (lent_gaps σ ss es)
  gap_in k l m = let n = gap_count in omega arith

  pub gap_end : (k : ℕ) → k ≤ min (length ss) (length es) - 1 → min (length ss) (length es) ≤ k + 1 → k ≡ length (lent_gaps σ ss es)
  gap_end k h l = let n = gap_count in omega arith

  -- between exons of good edges a gap starts low
  pub gap_low : (k : ℕ) → any bad_exon (exons_of ss es) ≡ false → k + 1 < length ss → k + 1 < length es → (get_or (lent_gaps σ ss es) k nowhere).start ≤ top
  gap_low k h l m = rw (gap_at k l m) (orient_high σ (get_or ss k 0) (get_or es k 0) (end_low ss es k h (omega arith) (omega arith)))

  -- behind the last gap there is none
  pub gap_none : (k : ℕ) → min (length ss) (length es) ≤ k + 1 → nowhere ≡ get_or (lent_gaps σ ss es) k nowhere
  gap_none k h = let n = gap_count in sym (get_or-eq_default (lent_gaps σ ss es) nowhere {n = k} (omega arith))
