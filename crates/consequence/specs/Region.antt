-- Which part of a transcript a place is in, and the terms there.
use Rattle.std.specs.Prelude.{ℕ, Bool, true, false}
use Rattle.locate.specs.declared.VariantLocation.{VariantLocation}
use Rattle.locate.specs.declared.VariantLocation.TheVariants.{Upstream, Downstream, Distal, FivePrimeUtr, CdsExon, ThreePrimeUtr, SpliceDonor, SpliceAcceptor, SpliceRegion, Intron, FrameshiftIntron, NonCodingExon, NonCodingIntron}
use Rattle.terms.specs.declared.Consequence.{Consequence}
use Rattle.terms.specs.declared.Consequence.TheVariants.{SpliceAcceptorVariant, SpliceDonorVariant, SpliceRegionVariant, CodingSequenceVariant, FivePrimeUtrVariant, ThreePrimeUtrVariant, NonCodingTranscriptExonVariant, IntronVariant, NonCodingTranscriptVariant, UpstreamGeneVariant, DownstreamGeneVariant}
use Rattle.terms.specs.Terms.{only, with_term_if}
use Rattle.locate.specs.declared.CdsOffset.{CdsOffset}
use Rattle.consequence.specs.declared.CodingPlace.{CodingPlace}
use Rattle.consequence.specs.declared.region.Region.{Region}

-- a short intron has no splice or intron term
abbrev pub frameshift_term : Bool → Consequence
frameshift_term true = CodingSequenceVariant
frameshift_term false = NonCodingTranscriptVariant

-- a coding base in its exon and segment, from what CdsExon says, and back
abbrev pub coding_place : ℕ → ℕ → CdsOffset → ℕ → ℕ → Bool → CodingPlace
coding_place i g o n k m = record { base = record { offset = o; number = n; position = k }; exon = i; segment = g; mark = m }

abbrev pub cds_exon : CodingPlace → VariantLocation
cds_exon b = CdsExon b.exon b.segment b.base.offset b.base.number b.base.position b.mark

-- the index of the exon or intron, its term and its splice mark; a coding base has its codon in place of a term. SpliceRegion has the
-- mark of an intron
abbrev pub region_of : Bool → VariantLocation → Region
region_of coding (Upstream d) = Region.Flank UpstreamGeneVariant
region_of coding (Downstream d) = Region.Flank DownstreamGeneVariant
region_of coding Distal = Region.Distal
region_of coding (FivePrimeUtr i d m) = Region.Exon i FivePrimeUtrVariant m
region_of coding (CdsExon i g o n k m) = Region.Coding (coding_place i g o n k m)
region_of coding (ThreePrimeUtr i d m) = Region.Exon i ThreePrimeUtrVariant m
region_of coding (SpliceDonor i d) = Region.Intron i SpliceDonorVariant false
region_of coding (SpliceAcceptor i d) = Region.Intron i SpliceAcceptorVariant false
region_of coding (SpliceRegion i s d) = Region.Intron i IntronVariant true
region_of coding (Intron i d) = Region.Intron i IntronVariant false
region_of coding (FrameshiftIntron i d) = Region.Intron i (frameshift_term coding) false
region_of coding (NonCodingExon i m) = Region.Exon i NonCodingTranscriptExonVariant m
region_of coding (NonCodingIntron i d) = Region.Intron i IntronVariant false

-- the splice mark adds splice_region_variant
abbrev pub with_mark : Bool → ℕ → ℕ
with_mark mark terms = with_term_if mark terms SpliceRegionVariant

-- the terms of a region, where a coding base has those of its codon
abbrev pub region_terms : ℕ → Region → ℕ
region_terms codon Region.Distal = 0
region_terms codon (Region.Flank c) = only c
region_terms codon (Region.Intron i c m) = with_mark m (only c)
region_terms codon (Region.Exon i c m) = with_mark m (only c)
region_terms codon (Region.Coding b) = with_mark b.mark codon
