-- An admitted transcript with its index: what an answer at a place of it needs.
-- Assumes nothing.
use Rattle.std.proofs.Common.{Option}
use Prim.Native.Nat.{ℕ, ◌+◌, ◌-◌, ◌/◌, ◌≤◌, ◌<◌, min, max}
use mathlib.Core.Path.{◌≡◌, sym, ◌∙◌, ap}
use mathlib.Core.Bool.{Bool, true}
use mathlib.Core.List.{List, [], ◌∷◌}
use native.Mathlib.Omega.{arith}
use lib.ListN.{length, get_or, replicate, length-map, length-append}
use lib.Dec.{ltb}
use Rattle.common.proofs.TestParts.{on_test, true_false}
use Rattle.transcript.specs.declared.TranscriptModel.{TranscriptModel}
use Rattle.transcript.specs.Limits.{top}
use Rattle.transcript.specs.Transcript.{Transcript, lent}
use Rattle.transcript.specs.Orient.{Interval, orient_exon, orient_base, Oriented, oriented}
use Rattle.transcript.specs.Bases.{inside, inside_any, sum, bases_in, total_size}
use Rattle.transcript.specs.Admission.{admission}
use Rattle.transcript.proofs.Listed.{nowhere}
use Rattle.transcript.proofs.Orient.{inside_start, inside_end}
use Rattle.footprint.specs.declared.Ranges.{Ranges}
use Rattle.locate.specs.declared.VariantLocation.{VariantLocation}
use Rattle.locate.specs.declared.IndexScalars.{IndexScalars}
use Rattle.locate.specs.Index.{selenocysteine_codons}
use Rattle.locate.specs.Place.{cds_offset, cdna_position, locate}
use Rattle.locate.specs.PlaceKind.{is_cds_exon, place_offset}
use Rattle.transcript.specs.code.Lent.{lent_exons}
use Rattle.locate.specs.code.Sums.{first_sum, Sums}
use Rattle.locate.proofs.Coding.{coding_place, coding_offset}
use Rattle.locate.proofs.Offset.{CdnaOf, index_cdna}
use Rattle.locate.proofs.CodedBases.{some_interval}
use Rattle.locate.proofs.LentTranscript.{known, ad, exons_are, segments_are, bases_are, count, segment_count, coding_is, pad_2}
use Rattle.locate.proofs.LentIndex.{exonic, coding, total}
use Rattle.consequence.specs.declared.CodingPlace.{CodingPlace}
use Rattle.consequence.specs.declared.region.Region.{Region}
use Rattle.consequence.specs.Region.{region_of}
use Rattle.consequence.specs.code.AtPlace.{region_called, place_called}
use Rattle.consequence.specs.code.Segments.{Segments}
use Rattle.consequence.specs.code.Prepared.{Prepared}
use Rattle.consequence.proofs.Regions.{by_region, Here, AtRegion, placed, coding_region}
use Rattle.codon.specs.declared.Codon.{Codon}

-- the bases before p are at most all of them, and fewer where p is one of them
part_le : (s e p : ℕ) → min e p - max s 0 ≤ e - s
part_le s e p = omega arith

part_lt : (s e p : ℕ) → s ≤ p → p < e → min e p - max s 0 < e - s
part_lt s e p a b = omega arith

before_le : (xs : List Interval) (p : ℕ) → bases_in xs 0 p ≤ total_size xs
unfolding bases_in sum
before_le [] p = omega arith
before_le (x ∷ xs) p = let r = before_le xs p in let a = part_le x.start x.end p in omega arith

before_lt : (xs : List Interval) (p : ℕ) → inside_any p xs ≡ true → bases_in xs 0 p < total_size xs
unfolding bases_in sum
before_lt [] p h = absurd (true_false (sym h))
before_lt (x ∷ xs) p h = on_test (inside p x)
    (λ e. (let r = before_le xs p in let a = part_lt x.start x.end p (inside_start p x e) (inside_end p x e) in omega arith))
    (λ e. (let r = before_lt xs p (rw e at h) in let a = part_le x.start x.end p in omega arith))

module _ (m : TranscriptModel) (ss es ps is gs ge bs : List ℕ) (x : IndexScalars) (xs ys cs : List ℕ) (h : Prepared (lent m ss es ps is gs ge bs) x xs ys cs) where
  abbrev t : Transcript
  t = lent m ss es ps is gs ge bs

  abbrev o : Oriented
  o = oriented t

  -- a law about the admitted transcript, at it
  abbrev on : {P : (m : TranscriptModel) (ss es ps is gs ge bs : List ℕ) → admission (lent m ss es ps is gs ge bs) ≡ 0 → Type 0}
      → ((m : TranscriptModel) (ss es ps is gs ge bs : List ℕ) (a : admission (lent m ss es ps is gs ge bs) ≡ 0) → P m ss es ps is gs ge bs a) → P m ss es ps is gs ge bs h.admitted
  on f = f m ss es ps is gs ge bs h.admitted

  pub exon_count : length o.exons ≡ m.exon_count
  unfolding oriented
  exon_count = length-map t.exons (orient_exon m.strand) ∙ sym (on known).counted

  pub index_fits : (i : ℕ) → i < length o.exons → (i < 65535) × (0 < m.exon_count)
  index_fits i l =
      let n = on count in
      let f = (on ad).few in
      let e = exon_count in
      (omega arith, omega arith)

  pub segments_at : o.segments ≡ lent_exons m.strand gs ge
  segments_at = on segments_are

  pub exons_at : o.exons ≡ lent_exons m.strand ss es
  exons_at = on exons_are

  -- a base of exon i
  module _ (p i : ℕ) (k : Here o.exons p i) where
    pub exon_requires : (Sums (lent_exons m.strand ss es) xs × (first_sum xs ≡ 0)) × ((i < length ss) × ((get_or (lent_exons m.strand ss es) i nowhere).start ≤ p) × (p < (get_or (lent_exons m.strand ss es) i nowhere).end))
    exon_requires =
        let e = on exons_are in
        let n = on count in
        let l = k.0 in (
          (on exonic xs h.exons_are, h.exons_are.1),
          (omega arith, rw e at k.1, rw e at k.2),
        )

  pub exon_cdna : (p n : ℕ) → n ≡ bases_in (lent_exons m.strand ss es) 0 p + 1 → cdna_position o p ≡ n
  exon_cdna p n e = ap (λ (l : List Interval). bases_in l 0 p + 1) (on exons_are) ∙ sym e

  -- the place of a base, by its region
  module _ (r : Ranges) (p : ℕ) (place : VariantLocation) (q : place ≡ locate r o p) (g : Region) (e : g ≡ region_of (ltb 0 (length gs)) place) where
    coding_same : g ≡ region_of o.coding place
    coding_same = e ∙ ap (λ (b : Bool). region_of b place) (on coding_is)

    pub at_region : AtRegion o.exons p g
    at_region = rw (coding_same ∙ ap (region_of o.coding) q) (placed r o p)

    pub called : (code : List ℕ) (alt : ℕ) (codon : ℕ → Option Codon) → region_called code o p alt codon place g ≡ place_called code o p alt codon place
    called code alt codon = ap (region_called code o p alt codon place) coding_same ∙ by_region code o p alt codon place

  -- a coding base
  module _ (r : Ranges) (p : ℕ) (place : VariantLocation) (q : place ≡ locate r o p) (b : CodingPlace) (e : Region.Coding b ≡ region_of (ltb 0 (length gs)) place) where
    is_coding_lem : (is_cds_exon place ≡ true) × (place_offset place ≡ b.base.offset.0)
    is_coding_lem = coding_region (ltb 0 (length gs)) place b (sym e)

    in_segment : inside_any p o.segments ≡ true
    in_segment = sym (coding_place t (on known) r p) ∙ ap is_cds_exon (sym q) ∙ is_coding_lem.0

    offset_is : b.base.offset.0 ≡ cds_offset o p
    offset_is = sym is_coding_lem.1 ∙ ap place_offset q ∙ coding_offset r o p (ap is_cds_exon (sym q) ∙ is_coding_lem.0)

    position : CdnaOf o p
    position = index_cdna t (on known) p in_segment

    pub coding_cdna : cdna_position o p ≡ x.utr5_exonic_len + (b.base.offset.0 - x.cds_start_pad) + 1
    coding_cdna = sym (rw (h.scalars_are, offset_is) position.is)

    segments_summed : Segments (lent_exons m.strand gs ge) ys x.cds_start_pad
    segments_summed = record {
      some = some_interval (lent_exons m.strand gs ge) p (rw (on segments_are) at in_segment);
      summed = on coding ys h.segments_are;
      pad_is = ap (λ (y : IndexScalars). y.cds_start_pad) h.scalars_are ∙ sym h.segments_are.1;
    }

    offset_low : b.base.offset.0 < x.total_cds_length
    offset_low = let a = before_lt o.segments p in_segment in let q = offset_is in rw h.scalars_are (omega arith)

    pub coding_requires : Segments (lent_exons m.strand gs ge) ys x.cds_start_pad
        × (((x.segment_count ≡ length gs) × (x.total_cds_length ≡ get_or ys (length gs) 0) × (b.base.offset.0 < x.total_cds_length))
        × (((x.selenocysteine_count ≤ 64) × (x.selenocysteine_count ≤ length cs))
        × ((b.exon < 65535) × (b.base.offset.0 ≤ 2 + top) × (x.cds_start_pad ≤ b.base.offset.0) × (x.utr5_exonic_len + (b.base.offset.0 - x.cds_start_pad) ≤ top))))
    coding_requires =
        let s = h.scalars_are in
        let c : x.selenocysteine_count ≡ length o.selenocysteine = ap (λ (y : IndexScalars). y.selenocysteine_count) s in
        let d = ap length (on bases_are) ∙ length-map bs (orient_base m.strand) in
        let l = length-map o.selenocysteine (λ b. cds_offset o b / 3 + 1) in
        let a = ap length h.codons_are ∙ length-append (selenocysteine_codons o) (replicate (64 - length (selenocysteine_codons o)) 0) in
        let w = (on ad).few_bases in
        let u = (index_fits b.exon (at_region r p place q (Region.Coding b) e)).0 in
        let z : CdnaOf o p = position in
        let v : (x.cds_start_pad ≤ b.base.offset.0) × (x.utr5_exonic_len + (b.base.offset.0 - x.cds_start_pad) ≤ top) = rw (s, offset_is) (z.padded, z.fits) in
        let y : x.cds_start_pad ≤ 2 = rw s (on pad_2) in (
          segments_summed,
          (
            (
              ap (λ (y : IndexScalars). y.segment_count) s ∙ on segment_count,
              ap (λ (y : IndexScalars). y.total_cds_length) s ∙ sym (on total ys h.segments_are),
              offset_low,
            ),
            (
              (omega arith, omega arith),
              (u, omega arith, v.0, v.1),
            ),
          ),
        )
