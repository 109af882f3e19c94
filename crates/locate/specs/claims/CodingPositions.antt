-- What is claimed of coding base k of the segments: where it stands, and how many coding bases come before it.
use Rattle.std.specs.Prelude.{ℕ, ◌+◌, ◌≤◌, ◌<◌, true, ◌≡◌}
use Rattle.transcript.specs.Limits.{coordinate_limit}
use Rattle.transcript.specs.Transcript.{Transcript, pad_of}
use Rattle.transcript.specs.Orient.{orient_base, oriented}
use Rattle.transcript.specs.Bases.{total_size}
use Rattle.transcript.specs.Admission.{Admitted}
use Rattle.footprint.specs.declared.Ranges.{Ranges}
use Rattle.locate.specs.declared.VariantLocation.{VariantLocation}
use Rattle.std.specs.Prelude.{Ok}
use Rattle.locate.specs.Place.{coding_position}
use Rattle.locate.specs.PlaceKind.{is_cds_exon, place_offset}
use Rattle.locate.specs.Query.{locate_variant}
use Rattle.locate.specs.claims.CodingBases.{is_coding, coding_before}

-- the coordinate of coding base k, counted from 0 in strand order without the pad
abbrev pub coding_coordinate : Transcript → ℕ → ℕ
coding_coordinate t k = orient_base t.model.strand (coding_position (oriented t).segments k)

-- coding base k is a base of a segment, and k coding bases come before it
abbrev pub CodingBaseCounts : Type 0
CodingBaseCounts =
    (t : Transcript) (k n : ℕ) → Admitted t →
    k < total_size (oriented t).segments →
    coordinate_limit ≤ n →
    (is_coding t.segments (coding_coordinate t k) ≡ true) × (coding_before t (coding_coordinate t k) n ≡ k)

-- so its place is CdsExon, and its padded offset the pad and k
abbrev pub CodingBasePlaced : Type 0
CodingBasePlaced =
    (r : Ranges) (t : Transcript) (chromosome k e : ℕ) (place : VariantLocation) → Admitted t →
    k < total_size (oriented t).segments →
    locate_variant r t chromosome (coding_coordinate t k) e ≡ Ok place →
    (is_cds_exon place ≡ true) × (place_offset place ≡ pad_of t.segments + k)

-- the reverse: a base of a segment with k coding bases before it is coding base k
abbrev pub CodingBaseStands : Type 0
CodingBaseStands =
    (t : Transcript) (p n : ℕ) → Admitted t →
    is_coding t.segments p ≡ true →
    coordinate_limit ≤ n →
    coding_coordinate t (coding_before t p n) ≡ p
