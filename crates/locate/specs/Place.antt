-- The place of one base, in oriented coordinates.
use Rattle.std.specs.Prelude.{ℕ, suc, ◌+◌, ◌-◌, ◌/◌, ◌%◌, Bool, cond, not, ◌&&◌, ◌||◌, List, [], ◌∷◌, length, leb, ltb, pos}
use Rattle.locate.specs.declared.VariantLocation.{VariantLocation}
use Rattle.locate.specs.declared.VariantLocation.TheVariants.{FivePrimeUtr, CdsExon, ThreePrimeUtr, NonCodingExon}
use Rattle.footprint.specs.declared.Ranges.{Ranges}
use Rattle.footprint.specs.Ranges.{splice_region_exon_max}
use Rattle.transcript.specs.Orient.{Interval, Oriented}
use Rattle.transcript.specs.Bases.{size, bases_in, total_size, first_start, last_end}
use Rattle.locate.specs.Find.{Found, in_exon, in_intron, outside, find_exon_or_intron}
use Rattle.locate.specs.Intronic.{minus, classify_intronic}

-- the splice mark: within 3 bases of an edge of exon i of n that faces another exon
abbrev pub is_exonic_splice_region : ℕ → ℕ → Interval → ℕ → Bool
is_exonic_splice_region n i x p =
    (ltb (suc i) n && leb (x.end - p) splice_region_exon_max)
    || (ltb 0 i && leb (p - x.start + 1) splice_region_exon_max)

-- the index of the first interval that ends after the base: of intervals that ascend, the one that holds it
unfoldable pub interval_index : List Interval → ℕ → ℕ
interval_index [] p = 0
interval_index (g ∷ gs) p = cond (ltb p g.end) 0 (suc (interval_index gs p))

-- the padded offset: the pad and the coding bases before the base
abbrev pub cds_offset : Oriented → ℕ → ℕ
cds_offset t p = t.pad + bases_in t.segments 0 p

-- where coding base k of the segments stands, k counted from 0 without the pad
unfoldable pub coding_position : List Interval → ℕ → ℕ
coding_position [] k = 0
coding_position (g ∷ gs) k = cond (ltb k (size g)) (g.start + k) (coding_position gs (k - size g))

-- the padded length of the CDS
abbrev pub total_cds_length : Oriented → ℕ
total_cds_length t = t.pad + total_size t.segments

-- the cDNA position: exonic bases counted from 1, without pad
abbrev pub cdna_position : Oriented → ℕ → ℕ
cdna_position t p = bases_in t.exons 0 p + 1

-- the same from the padded offset of a coding base: only here is the pad subtracted
abbrev pub cdna_of_offset : Oriented → ℕ → ℕ
cdna_of_offset t offset = bases_in t.exons 0 t.cds.start + (offset - t.pad) + 1

-- codon number from 1 and place in the codon from 0
abbrev pub cds_exon : ℕ → ℕ → ℕ → Bool → VariantLocation
cds_exon i g offset mark = CdsExon i g (record { 0 = offset }) (offset / 3 + 1) (offset % 3) mark

-- a base of exon i: of the 5'UTR, the 3'UTR or the CDS. UTR offsets count exonic bases from the CDS edge
unfoldable pub exonic : Oriented → ℕ → ℕ → Bool → VariantLocation
exonic t p i mark =
    cond (not t.coding) (NonCodingExon i mark)
    (cond (ltb p t.cds.start) (FivePrimeUtr i (minus (bases_in t.exons p t.cds.start)) mark)
    (cond (leb t.cds.end p) (ThreePrimeUtr i (pos (bases_in t.exons t.cds.end (p + 1))) mark)
    (cds_exon i (interval_index t.segments p) (cds_offset t p) mark)))

-- a base between the outer exon edges
abbrev pub place_found : Ranges → Oriented → ℕ → Found → VariantLocation
place_found r t p (in_exon i x) = exonic t p i (is_exonic_splice_region (length t.exons) i x p)
place_found r t p (in_intron i gap) = classify_intronic r t.coding i gap p
place_found r t p outside = VariantLocation.Distal

-- outside the transcript by distance: 1 to the flank length, then Distal
unfoldable pub locate : Ranges → Oriented → ℕ → VariantLocation
locate r t p =
    cond (ltb p (first_start t.exons))
    (cond (leb (first_start t.exons - p) r.flank) (VariantLocation.Upstream (first_start t.exons - p)) VariantLocation.Distal)
    (cond (leb (last_end t.exons) p)
    (cond (leb (p - last_end t.exons + 1) r.flank) (VariantLocation.Downstream (p - last_end t.exons + 1)) VariantLocation.Distal)
    (place_found r t p (find_exon_or_intron t.exons p)))
