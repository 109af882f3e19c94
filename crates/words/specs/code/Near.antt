-- Distances that fit 32 bits, and the largest of these in place of one that does not.
use Rattle.std.specs.Prelude.{ℕ, ◌<◌, ◌^◌, min, List, ◌∷◌, ◌++◌, replicate, ℤ, pos, Result, Ok, Err}
use Rattle.common.specs.declared.refusal.Refusal.{Refusal}
use Rattle.footprint.specs.declared.Flank.{Flank}
use Rattle.locate.specs.declared.VariantLocation.{VariantLocation}
use Rattle.locate.specs.declared.VariantLocation.TheVariants.{Upstream, Downstream, Distal, FivePrimeUtr, CdsExon, ThreePrimeUtr, SpliceDonor, SpliceAcceptor, SpliceRegion, Intron, FrameshiftIntron, NonCodingExon, NonCodingIntron}
use Rattle.locate.specs.Numbers.{place_words}
use Rattle.consequence.specs.declared.ConsequenceResult.{ConsequenceResult}
use Rattle.consequence.specs.Numbers.{column_words}

-- an answer, if it is none of the refusals, is as said
abbrev pub Answers : {A : Type 0} → (A → Type 0) → Result A Refusal → Type 0
Answers Says (Ok x) = Says x
Answers Says (Err r) = Unit

-- the distance of a flank fits 32 bits
abbrev pub NearFlank : Flank → Type 0
NearFlank Flank.Overlaps = Unit
NearFlank (Flank.Upstream d) = d < 2 ^ 32
NearFlank (Flank.Downstream d) = d < 2 ^ 32
NearFlank Flank.Far = Unit

-- the distance of a place beside the transcript fits 32 bits
abbrev pub Near : VariantLocation → Type 0
Near (Upstream d) = d < 2 ^ 32
Near (Downstream d) = d < 2 ^ 32
Near Distal = Unit
Near (FivePrimeUtr i d m) = Unit
Near (CdsExon i g o n c m) = Unit
Near (ThreePrimeUtr i d m) = Unit
Near (SpliceDonor i d) = Unit
Near (SpliceAcceptor i d) = Unit
Near (SpliceRegion i s d) = Unit
Near (Intron i d) = Unit
Near (FrameshiftIntron i d) = Unit
Near (NonCodingExon i m) = Unit
Near (NonCodingIntron i d) = Unit

abbrev pub NearResult : ConsequenceResult → Type 0
NearResult a = Near a.location

-- a distance as it is put
abbrev pub capped : ℕ → ℕ
capped d = min d 4_294_967_295

abbrev pub capped_flank : Flank → Flank
capped_flank Flank.Overlaps = Flank.Overlaps
capped_flank (Flank.Upstream d) = Flank.Upstream (capped d)
capped_flank (Flank.Downstream d) = Flank.Downstream (capped d)
capped_flank Flank.Far = Flank.Far

abbrev pub capped_place : VariantLocation → VariantLocation
capped_place (Upstream d) = Upstream (capped d)
capped_place (Downstream d) = Downstream (capped d)
capped_place Distal = Distal
capped_place (FivePrimeUtr i d m) = FivePrimeUtr i d m
capped_place (CdsExon i g o n c m) = CdsExon i g o n c m
capped_place (ThreePrimeUtr i d m) = ThreePrimeUtr i d m
capped_place (SpliceDonor i d) = SpliceDonor i d
capped_place (SpliceAcceptor i d) = SpliceAcceptor i d
capped_place (SpliceRegion i s d) = SpliceRegion i s d
capped_place (Intron i d) = Intron i d
capped_place (FrameshiftIntron i d) = FrameshiftIntron i d
capped_place (NonCodingExon i m) = NonCodingExon i m
capped_place (NonCodingIntron i d) = NonCodingIntron i d

abbrev pub capped_at : Result VariantLocation Refusal → Result VariantLocation Refusal
capped_at (Ok place) = Ok (capped_place place)
capped_at (Err r) = Err r

-- the words of an answer whose distance is capped, or of a refusal of any number
abbrev pub capped_words : Result ConsequenceResult ℕ → List ℤ
capped_words (Ok a) = pos 0 ∷ (place_words (capped_place a.location) ++ column_words a)
capped_words (Err n) = pos n ∷ replicate 19 (pos 0)
