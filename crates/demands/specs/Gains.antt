-- What a longer transcript's answer may gain over the shorter's: splice marks and terms, near an outer end and nowhere else.
use Rattle.std.specs.Prelude.{Result}
use Rattle.std.specs.Prelude.{Err, Ok}
use Rattle.std.specs.Prelude.{Bool, true, false, ◌≡◌}
use Rattle.locate.specs.declared.VariantLocation.{VariantLocation}
use Rattle.locate.specs.declared.VariantLocation.TheVariants.{Upstream, Downstream, Distal, FivePrimeUtr, CdsExon, ThreePrimeUtr, SpliceDonor, SpliceAcceptor, SpliceRegion, Intron, FrameshiftIntron, NonCodingExon, NonCodingIntron}
use Rattle.common.specs.declared.refusal.Refusal.{Refusal}
use Rattle.consequence.specs.Called.{Called}
use Rattle.terms.specs.declared.Consequence.{Consequence}
use Rattle.terms.specs.declared.Consequence.TheVariants.{SpliceRegionVariant}
use Rattle.terms.specs.Terms.{holds_term}

-- is_splice_region of an exon's base; no other place has the mark
abbrev pub splice_mark : VariantLocation → Bool
splice_mark (Upstream d) = false
splice_mark (Downstream d) = false
splice_mark Distal = false
splice_mark (FivePrimeUtr i d m) = m
splice_mark (CdsExon i g o n c m) = m
splice_mark (ThreePrimeUtr i d m) = m
splice_mark (SpliceDonor i d) = false
splice_mark (SpliceAcceptor i d) = false
splice_mark (SpliceRegion i s d) = false
splice_mark (Intron i d) = false
splice_mark (FrameshiftIntron i d) = false
splice_mark (NonCodingExon i m) = m
splice_mark (NonCodingIntron i d) = false

-- the mark of an answer; a refusal has none
abbrev pub place_mark : Result VariantLocation Refusal → Bool
place_mark (Ok place) = splice_mark place
place_mark (Err r) = false

abbrev pub call_mark : Called → Bool
call_mark (Ok a) = splice_mark a.location
call_mark (Err r) = false

-- the answer has the term; a refusal has none
abbrev pub has_term : Called → Consequence → Bool
has_term (Ok a) c = holds_term a.consequences.0 c
has_term (Err r) c = false

-- the mark is not lost, and is gained only near
pub record MarkKept (shorter longer near : Bool) : Type 0 where
  pub kept : shorter ≡ true → longer ≡ true
  pub gained : longer ≡ true → shorter ≡ false → near ≡ true

-- no term is lost, and none is gained but splice_region_variant, only near
pub record TermsKept (shorter longer : Called) (near : Bool) : Type 0 where
  pub kept : (c : Consequence) → has_term shorter c ≡ true → has_term longer c ≡ true
  pub gained : (c : Consequence) → has_term longer c ≡ true → has_term shorter c ≡ false → (c ≡ SpliceRegionVariant) × (near ≡ true)
