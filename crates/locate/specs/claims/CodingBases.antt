-- What is claimed of coding places: where they are, and what a padded offset counts.
use Rattle.std.specs.Prelude.{ℕ, ◌+◌, ◌≤◌, Bool, true, ◌&&◌, List, ◌≡◌, leb, ltb}
use Rattle.common.specs.Lists.{any, count_below}
use Rattle.transcript.specs.declared.Strand.{Strand}
use Rattle.transcript.specs.declared.Strand.TheVariants.{Plus, Minus}
use Rattle.transcript.specs.declared.CdsSegment.{CdsSegment}
use Rattle.transcript.specs.Limits.{coordinate_limit}
use Rattle.transcript.specs.Transcript.{Transcript, pad_of}
use Rattle.footprint.specs.declared.Ranges.{Ranges}
use Rattle.locate.specs.declared.VariantLocation.{VariantLocation}
use Rattle.std.specs.Prelude.{Ok}
use Rattle.locate.specs.PlaceKind.{is_cds_exon, place_offset}
use Rattle.locate.specs.Query.{locate_variant}

-- some segment holds the base, in genomic coordinates
abbrev pub is_coding : List CdsSegment → ℕ → Bool
is_coding gs p = any (λ (g : CdsSegment). leb g.genomic_start p && ltb p g.genomic_end) gs

-- q comes before p in strand order
abbrev pub is_before : Strand → ℕ → ℕ → Bool
is_before Plus p q = ltb q p
is_before Minus p q = ltb p q

-- how many coding bases come before p in strand order, of those below n
abbrev pub coding_before : Transcript → ℕ → ℕ → ℕ
coding_before t p n = count_below (λ q. is_before t.model.strand p q && is_coding t.segments q) n

-- a place is CdsExon exactly where a segment holds the base
abbrev pub CodingPlaces : Type 0
CodingPlaces =
    (r : Ranges) (t : Transcript) (chromosome s e : ℕ) (place : VariantLocation) →
    locate_variant r t chromosome s e ≡ Ok place →
    is_cds_exon place ≡ is_coding t.segments s

-- its padded offset is the pad and the number of coding bases before the base in strand order; all of them are below the limit
abbrev pub OffsetsCount : Type 0
OffsetsCount =
    (r : Ranges) (t : Transcript) (chromosome s e n : ℕ) (place : VariantLocation) →
    locate_variant r t chromosome s e ≡ Ok place →
    is_cds_exon place ≡ true →
    coordinate_limit ≤ n →
    place_offset place ≡ pad_of t.segments + coding_before t s n
