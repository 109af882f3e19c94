-- What a longer transcript answers, from the shorter's answer and from what was added.
use Rattle.std.specs.Prelude.{Result}
use Rattle.std.specs.Prelude.{Err, Ok}
use Rattle.std.specs.Prelude.{ℕ, ◌+◌, Bool, true, false, not, ◌&&◌, ◌||◌, Option, Some, None}
use Rattle.locate.specs.declared.VariantLocation.{VariantLocation}
use Rattle.locate.specs.declared.VariantLocation.TheVariants.{Upstream, Downstream, Distal, FivePrimeUtr, CdsExon, ThreePrimeUtr, SpliceDonor, SpliceAcceptor, SpliceRegion, Intron, FrameshiftIntron, NonCodingExon, NonCodingIntron}
use Rattle.common.specs.declared.refusal.Refusal.{Refusal}
use Rattle.consequence.specs.declared.Numbered.{Numbered}
use Rattle.consequence.specs.declared.ConsequenceResult.{ConsequenceResult}
use Rattle.consequence.specs.Called.{Called}
use Rattle.terms.specs.declared.Consequence.TheVariants.{SpliceAcceptorVariant, SpliceDonorVariant, SpliceRegionVariant}
use Rattle.terms.specs.Terms.{holds_term, with_term_if}
use Rattle.consequence.specs.Answer.{nth_of}
use Rattle.locate.specs.declared.CdnaPosition.{CdnaPosition}

-- exons and exonic bases added 5' of the base, exons added in all, and whether the splice mark is gained
pub record Added : Type 0 where
  pub exons5 : ℕ
  pub bases5 : ℕ
  pub exons : ℕ
  pub mark : Bool

-- an exon or intron index moves by the exons added 5'; a mark is kept or gained; all else stays
unfoldable pub carry_place : Added → VariantLocation → VariantLocation
carry_place x (Upstream d) = Upstream d
carry_place x (Downstream d) = Downstream d
carry_place x Distal = Distal
carry_place x (FivePrimeUtr i d m) = FivePrimeUtr (i + x.exons5) d (m || x.mark)
carry_place x (CdsExon i g o n c m) = CdsExon (i + x.exons5) g o n c (m || x.mark)
carry_place x (ThreePrimeUtr i d m) = ThreePrimeUtr (i + x.exons5) d (m || x.mark)
carry_place x (SpliceDonor i d) = SpliceDonor (i + x.exons5) d
carry_place x (SpliceAcceptor i d) = SpliceAcceptor (i + x.exons5) d
carry_place x (SpliceRegion i s d) = SpliceRegion (i + x.exons5) s d
carry_place x (Intron i d) = Intron (i + x.exons5) d
carry_place x (FrameshiftIntron i d) = FrameshiftIntron (i + x.exons5) d
carry_place x (NonCodingExon i m) = NonCodingExon (i + x.exons5) (m || x.mark)
carry_place x (NonCodingIntron i d) = NonCodingIntron (i + x.exons5) d

-- a number moves by the exons added 5', a total by all exons added
abbrev pub carry_number : Added → Option Numbered → Option Numbered
carry_number x None = None
carry_number x (Some k) = Some (nth_of (k.number + x.exons5) (k.total + x.exons))

-- a cDNA position moves by the exonic bases added 5'
abbrev pub carry_cdna : Added → Option CdnaPosition → Option CdnaPosition
carry_cdna x None = None
carry_cdna x (Some k) = Some (record { 0 = k.0 + x.bases5 })

abbrev pub is_numbered : Option Numbered → Bool
is_numbered None = false
is_numbered (Some n) = true

-- the terms hold a splice term, as a spill gives an exon base
abbrev pub has_splice : ℕ → Bool
has_splice terms = holds_term terms SpliceDonorVariant || holds_term terms SpliceAcceptorVariant

-- an exon base gains splice_region_variant with the mark, unless a spill gave it a splice term
unfoldable pub gains_term : Added → ConsequenceResult → Bool
gains_term x a = x.mark && is_numbered a.exon && not (has_splice a.consequences.0)

unfoldable pub carry_result : Added → ConsequenceResult → ConsequenceResult
carry_result x a = record {
  location = carry_place x a.location;
  exon = carry_number x a.exon;
  intron = carry_number x a.intron;
  cds_position = a.cds_position;
  cdna_position = carry_cdna x a.cdna_position;
  protein_start = a.protein_start;
  codons = a.codons;
  amino_acids = a.amino_acids;
  consequences = record { 0 = with_term_if (gains_term x a) a.consequences.0 SpliceRegionVariant };
}

-- refusals are alike
abbrev pub carry_located : Added → Result VariantLocation Refusal → Result VariantLocation Refusal
carry_located x (Ok place) = Ok (carry_place x place)
carry_located x (Err r) = Err r

abbrev pub carry_called : Added → Called → Called
carry_called x (Ok a) = Ok (carry_result x a)
carry_called x (Err r) = Err r
