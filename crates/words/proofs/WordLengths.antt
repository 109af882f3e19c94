-- How many numbers a place and an answer have.
-- Assumes nothing.
use Rattle.std.specs.Prelude.{Result, Err, Ok}
use Rattle.common.specs.declared.refusal.Refusal.{Refusal}
use Prim.Native.Nat.{suc}
use mathlib.Core.Path.{◌≡◌, refl, ◌∙◌, ap}
use lib.ListN.{length, length-append}
use Rattle.locate.specs.declared.VariantLocation.{VariantLocation}
use Rattle.locate.specs.declared.VariantLocation.TheVariants.{Upstream, Downstream, Distal, FivePrimeUtr, CdsExon, ThreePrimeUtr, SpliceDonor, SpliceAcceptor, SpliceRegion, Intron, FrameshiftIntron, NonCodingExon, NonCodingIntron}
use Rattle.consequence.specs.Called.{Called}
use Rattle.locate.specs.Numbers.{place_words, located_words}
use Rattle.consequence.specs.Numbers.{column_words, called_words}

pub place_length : (place : VariantLocation) → length (place_words place) ≡ 7
place_length (Upstream d) = refl
place_length (Downstream d) = refl
place_length Distal = refl
place_length (FivePrimeUtr i d m) = refl
place_length (CdsExon i g o n c m) = refl
place_length (ThreePrimeUtr i d m) = refl
place_length (SpliceDonor i d) = refl
place_length (SpliceAcceptor i d) = refl
place_length (SpliceRegion i s d) = refl
place_length (Intron i d) = refl
place_length (FrameshiftIntron i d) = refl
place_length (NonCodingExon i m) = refl
place_length (NonCodingIntron i d) = refl

pub located_length : (x : Result VariantLocation Refusal) → length (located_words x) ≡ 8
located_length (Ok place) = rw (place_length place)
located_length (Err r) = refl

pub called_length : (x : Called) → length (called_words x) ≡ 20
called_length (Ok a) =
    let p = place_length a.location in
    ap suc (length-append (place_words a.location) (column_words a) ∙ rw p)
called_length (Err r) = refl
