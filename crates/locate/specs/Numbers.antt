-- The answer to the question of a place as numbers.
use Rattle.std.specs.Prelude.{ℕ, List, [], ◌∷◌, replicate, ℤ, pos, Result, Ok, Err}
use Rattle.common.specs.declared.refusal.Refusal.{Refusal}
use Rattle.common.specs.Refusal.{number}
use Rattle.locate.specs.declared.SpliceSide.{SpliceSide}
use Rattle.locate.specs.declared.SpliceSide.TheVariants.{Donor, Acceptor}
use Rattle.locate.specs.declared.VariantLocation.{VariantLocation}
use Rattle.locate.specs.declared.VariantLocation.TheVariants.{Upstream, Downstream, Distal, FivePrimeUtr, CdsExon, ThreePrimeUtr, SpliceDonor, SpliceAcceptor, SpliceRegion, Intron, FrameshiftIntron, NonCodingExon, NonCodingIntron}
use Rattle.locate.specs.PlaceKind.{place_kind}
use Rattle.common.specs.Flag.{flag}

abbrev pub side_number : SpliceSide → ℕ
side_number Donor = 0
side_number Acceptor = 1

-- mark, index and distance; no segment, codon position or codon number
abbrev pub plain_words : ℕ → ℕ → ℤ → List ℤ
plain_words mark index distance = pos mark ∷ pos index ∷ pos 0 ∷ pos 0 ∷ distance ∷ pos 0 ∷ []

-- mark (of a splice region its side), exon or intron, segment, codon position, distance (of a CdsExon the padded offset), codon number;
-- 0 for what a place does not have
abbrev pub place_fields : VariantLocation → List ℤ
place_fields (Upstream d) = plain_words 0 0 (pos d)
place_fields (Downstream d) = plain_words 0 0 (pos d)
place_fields Distal = plain_words 0 0 (pos 0)
place_fields (FivePrimeUtr i d m) = plain_words (flag m) i d
place_fields (CdsExon i g o n c m) = pos (flag m) ∷ pos i ∷ pos g ∷ pos c ∷ pos o.0 ∷ pos n ∷ []
place_fields (ThreePrimeUtr i d m) = plain_words (flag m) i d
place_fields (SpliceDonor i d) = plain_words 0 i (pos d)
place_fields (SpliceAcceptor i d) = plain_words 0 i (pos d)
place_fields (SpliceRegion i s d) = plain_words (side_number s) i d
place_fields (Intron i d) = plain_words 0 i d
place_fields (FrameshiftIntron i d) = plain_words 0 i d
place_fields (NonCodingExon i m) = plain_words (flag m) i (pos 0)
place_fields (NonCodingIntron i d) = plain_words 0 i d

-- a place as 7 numbers
abbrev pub place_words : VariantLocation → List ℤ
place_words place = pos (place_kind place) ∷ place_fields place

-- the answer to the question of a place as 8 numbers; a refusal's number has zeros behind it
abbrev pub located_words : Result VariantLocation Refusal → List ℤ
located_words (Ok place) = pos 0 ∷ place_words place
located_words (Err r) = pos (number r) ∷ replicate 7 (pos 0)
