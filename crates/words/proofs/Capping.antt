-- Distances that fit are put as they are, and numbers that fit are all put.
-- Assumes nothing.
use Rattle.std.specs.Prelude.{Option, Some, None, Result, Err, Ok}
use Rattle.common.specs.declared.refusal.Refusal.{Refusal}
use Prim.Native.Nat.{ℕ, ◌+◌, ◌≤◌, ◌<◌, ◌^◌}
use mathlib.Core.Path.{◌≡◌, refl, sym, ◌∙◌, ap}
use mathlib.Core.List.{List, ◌∷◌, ◌++◌}
use native.Mathlib.Omega.{arith}
use borrow.Author.Tests.{le-leb}
use lib.ListN.{length}
use lib.Seq.{sets}
use lib.IntN.{ℤ, pos}
use Rattle.footprint.specs.declared.Flank.{Flank}
use Rattle.footprint.specs.declared.SpliceSpill.{SpliceSpill}
use Rattle.locate.specs.declared.VariantLocation.{VariantLocation}
use Rattle.locate.specs.declared.VariantLocation.TheVariants.{Upstream, Downstream, Distal, FivePrimeUtr, CdsExon, ThreePrimeUtr, SpliceDonor, SpliceAcceptor, SpliceRegion, Intron, FrameshiftIntron, NonCodingExon, NonCodingIntron}
use Rattle.locate.specs.Numbers.{place_words, located_words}
use Rattle.consequence.specs.Called.{Called, by_number}
use Rattle.consequence.specs.Numbers.{column_words, called_words}
use Rattle.words.specs.IntervalWords.{interval_words}
use Rattle.words.specs.code.Near.{Answers, NearFlank, Near, NearResult, capped, capped_flank, capped_place, capped_at, capped_words}
use Rattle.words.specs.code.Put.{put_at}
use Rattle.words.proofs.WordLengths.{located_length, called_length}
use Rattle.words.proofs.Putting.{whole}

same_distance : (d : ℕ) → d < 2 ^ 32 → capped d ≡ d
same_distance d h = omega arith

same_flank : (f : Flank) → NearFlank f → capped_flank f ≡ f
same_flank Flank.Overlaps h = refl
same_flank (Flank.Upstream d) h = ap Flank.Upstream (same_distance d h)
same_flank (Flank.Downstream d) h = ap Flank.Downstream (same_distance d h)
same_flank Flank.Far h = refl

same_place : (place : VariantLocation) → Near place → capped_place place ≡ place
same_place (Upstream d) h = ap Upstream (same_distance d h)
same_place (Downstream d) h = ap Downstream (same_distance d h)
same_place Distal h = refl
same_place (FivePrimeUtr i d m) h = refl
same_place (CdsExon i g o n c m) h = refl
same_place (ThreePrimeUtr i d m) h = refl
same_place (SpliceDonor i d) h = refl
same_place (SpliceAcceptor i d) h = refl
same_place (SpliceRegion i s d) h = refl
same_place (Intron i d) h = refl
same_place (FrameshiftIntron i d) h = refl
same_place (NonCodingExon i m) h = refl
same_place (NonCodingIntron i d) h = refl

same_located : (x : Result VariantLocation Refusal) → Answers Near x → capped_at x ≡ x
same_located (Ok place) h = ap Ok (same_place place h)
same_located (Err r) h = refl

same_called : (x : Called) → Answers NearResult x → capped_words (by_number x) ≡ called_words x
same_called (Ok a) h = ap (λ (p : VariantLocation). pos 0 ∷ (place_words p ++ column_words a)) (same_place a.location h)
same_called (Err r) h = refl

module _ (l : List ℤ) (at : ℕ) where
  put_fits : (ws : List ℤ) → at + length ws ≤ length l → put_at l at ws ≡ sets l at ws
  put_fits ws h = rw (le-leb (at + length ws) (length l) h)

  -- the words of an answer that fit, with a distance that fits
  pub located_fits : (x : Result VariantLocation Refusal) → at + 8 ≤ length l → Answers Near x → put_at l at (located_words (capped_at x)) ≡ sets l at (located_words x)
  located_fits x h n =
      let k = located_length x in
      ap (λ (y : Result VariantLocation Refusal). put_at l at (located_words y)) (same_located x n) ∙ put_fits (located_words x) (omega arith)

  pub called_fits : (x : Called) → at + 20 ≤ length l → Answers NearResult x → put_at l at (capped_words (by_number x)) ≡ sets l at (called_words x)
  called_fits x h n =
      let k = called_length x in
      ap (put_at l at) (same_called x n) ∙ put_fits (called_words x) (omega arith)

interval_length : (f : Flank) (e : Option ℕ) (s : SpliceSpill) → length (interval_words (Ok f) (Ok e) (Ok s)) ≡ 7
interval_length f (Some i) s = refl
interval_length f None s = refl

pub interval_fits : (l : List ℤ) (f : Flank) (e : Option ℕ) (s : SpliceSpill) → length l ≡ 7 → NearFlank f
    → put_at l 0 (interval_words (Ok (capped_flank f)) (Ok e) (Ok s)) ≡ interval_words (Ok f) (Ok e) (Ok s)
interval_fits l f e s h n =
    let words = interval_words (Ok f) (Ok e) (Ok s) in
    let k = interval_length f e s in
    ap (λ (g : Flank). put_at l 0 (interval_words (Ok g) (Ok e) (Ok s))) (same_flank f n) ∙ put_fits l 0 words (omega arith) ∙ whole l words (k ∙ sym h)
