-- A base of an exon of an admitted transcript whose lists are lent apart, in the terms in which the code reads its place.
-- Assumes nothing.
use Prim.Native.Nat.{ℕ, ◌+◌, ◌-◌, ◌≤◌, ◌<◌}
use mathlib.Core.Path.{◌≡◌, sym, ◌∙◌, ap}
use mathlib.Core.Bool.{Bool, true}
use mathlib.Core.List.{List, map}
use native.Mathlib.Omega.{arith}
use lib.ListN.{length, get_or}
use borrow.Author.Tests.{lt-ltb}
use Rattle.transcript.specs.declared.TranscriptModel.{TranscriptModel}
use Rattle.transcript.specs.Limits.{top}
use Rattle.transcript.specs.Transcript.{lent, cds_start, cds_end}
use Rattle.transcript.specs.Orient.{Interval, interval, orient, oriented}
use Rattle.transcript.specs.Bases.{size, last_end}
use Rattle.transcript.specs.Admission.{admission}
use Rattle.locate.specs.declared.IndexScalars.{IndexScalars}
use Rattle.locate.specs.Index.{cumulative, index_scalars}
use Rattle.locate.specs.code.Sums.{ExonSums}
use Rattle.locate.specs.Place.{is_exonic_splice_region, exonic}
use Rattle.locate.specs.declared.Feature.{Feature}
use Rattle.locate.specs.code.Features.{bases_of}
use Rattle.locate.specs.code.Search.{Holds}
use Rattle.locate.specs.declared.exonic.Counts.{Counts}
use Rattle.locate.specs.code.Exonic.{counts, exonic_of, Countable}
use Rattle.transcript.proofs.Listed.{nowhere}
use Rattle.locate.proofs.Searching.{end_at_lem, end_top}
use Rattle.locate.proofs.Offset.{sum_low}
use Rattle.locate.proofs.CodingExons.{first_exon, first_is}
use Rattle.locate.proofs.ExonicCounts.{index_counts}
use Rattle.locate.proofs.ExonicPlace.{countable, exonic_same}
use Rattle.locate.proofs.LentTranscript.{known, exons_are, count, ready, coding_is, cds_is, pad_2}

-- the counts of a base of exon i, as the code computes them
abbrev pub code_counts : IndexScalars → ℕ → Counts
code_counts x before =
    counts before x.utr5_exonic_len (x.utr5_exonic_len + (x.total_cds_length - x.cds_start_pad)) x.cds_start_pad x.cds_start_exon_idx

pub move : (n k : Counts) (x y : Interval) (p i : ℕ) → n ≡ k → x ≡ y → Countable k y p i → Countable n x p i
move n k x y p i f g h = rw (f, g) h

pub move_place : (n k : Counts) (x y : Interval) (p i : ℕ) (m : Bool) → n ≡ k → x ≡ y → exonic_of n x p i m ≡ exonic_of k y p i m
move_place n k x y p i m f g = rw (f, g)

module _ (m : TranscriptModel) (ss es ps is gs ge bs : List ℕ) (h : admission (lent m ss es ps is gs ge bs) ≡ 0) where
  -- the last exon ends within the coordinates
  top_end : last_end (oriented (lent m ss es ps is gs ge bs)).exons ≤ top
  top_end = (known m ss es ps is gs ge bs h).high

  module _ (x : IndexScalars) (sums : List ℕ) (q : x ≡ index_scalars (oriented (lent m ss es ps is gs ge bs))) (qs : ExonSums (oriented (lent m ss es ps is gs ge bs)) sums) where
    pub pad_fits : x.cds_start_pad ≤ x.total_cds_length
    pad_fits = rw q (omega arith)

    module _ (y : Feature) (p : ℕ) (d : Holds (oriented (lent m ss es ps is gs ge bs)) y p) where
      pub index_low : y.index < length ss
      index_low = let n = count m ss es ps is gs ge bs h in let l = d.index in omega arith

      pub end_high : y.end ≤ top
      end_high =
          let f = ready m ss es ps is gs ge bs h in
          let e = d.end_is ∙ ap (λ (xs : List Interval). (get_or xs y.index nowhere).end) (exons_are m ss es ps is gs ge bs h) ∙ end_at_lem m.strand ss es f y.index index_low in
          let l = end_top m.strand ss es f y.index index_low in
          omega arith

      pub read_low : get_or sums y.index 0 ≤ 2 + top
      read_low =
          let l = d.index in
          sum_low (oriented (lent m ss es ps is gs ge bs)).exons sums (known m ss es ps is gs ge bs h).order qs.0 top_end y.index (omega arith)

      pub in_reach : y.index < length sums
      in_reach = let l = d.index in let r = qs.0.reach in omega arith

      codes : (before : ℕ) → before ≡ get_or sums y.index 0 + (p - y.start) → code_counts x before ≡ index_counts (oriented (lent m ss es ps is gs ge bs)) p y.index (first_exon (lent m ss es ps is gs ge bs))
      codes before e =
          let l = d.index in
          let s : get_or sums y.index 0 ≡ get_or (cumulative 0 (map size (oriented (lent m ss es ps is gs ge bs)).exons)) y.index 0
          = qs.0.are y.index (omega arith) ∙ ap (λ (n : ℕ). get_or (cumulative n (map size (oriented (lent m ss es ps is gs ge bs)).exons)) y.index 0) qs.1 in
          let w : before ≡ get_or (cumulative 0 (map size (oriented (lent m ss es ps is gs ge bs)).exons)) y.index 0 + (p - (get_or (oriented (lent m ss es ps is gs ge bs)).exons y.index nowhere).start)
          = e ∙ (λ k. s k + (p - d.start_is k)) in
          (λ k. code_counts (q k) (w k)) ∙ ap (index_counts (oriented (lent m ss es ps is gs ge bs)) p y.index) (sym (first_is (lent m ss es ps is gs ge bs) (known m ss es ps is gs ge bs h)))

      module _ (z : 0 < length gs) (a b before : ℕ) (ea : a ≡ (orient m.strand (cds_start m.cds) (cds_end m.cds)).start) (eb : b ≡ (orient m.strand (cds_start m.cds) (cds_end m.cds)).end) (f : before ≡ get_or sums y.index 0 + (p - y.start)) where
        some : (oriented (lent m ss es ps is gs ge bs)).coding ≡ true
        some = sym (coding_is m ss es ps is gs ge bs h) ∙ lt-ltb 0 (length gs) z

        cds_same : interval a b ≡ (oriented (lent m ss es ps is gs ge bs)).cds
        cds_same = (λ k. interval (ea k) (eb k)) ∙ sym (cds_is m ss es ps is gs ge bs h some)

        from : (get_or (oriented (lent m ss es ps is gs ge bs)).exons y.index nowhere).start ≤ p
        from = let s = d.start_is in let l = d.from in omega arith

        to : p < (get_or (oriented (lent m ss es ps is gs ge bs)).exons y.index nowhere).end
        to = let s = d.end_is in let l = d.to in omega arith

        pub countable_code : Countable (code_counts x before) (interval a b) p y.index
        countable_code =
            let e = end_high in let l = d.to in
            move _ _ _ _ p y.index (codes before f) cds_same
            (countable (lent m ss es ps is gs ge bs) (known m ss es ps is gs ge bs h) y.index p d.index from to some (omega arith) (pad_2 m ss es ps is gs ge bs h))

        pub exonic_code : (mark : Bool) → mark ≡ is_exonic_splice_region (length ss) y.index (bases_of y) p
            → exonic_of (code_counts x before) (interval a b) p y.index mark
            ≡ exonic (oriented (lent m ss es ps is gs ge bs)) p y.index (is_exonic_splice_region (length (oriented (lent m ss es ps is gs ge bs)).exons) y.index (bases_of y) p)
        exonic_code mark g =
            move_place _ _ _ _ p y.index mark (codes before f) cds_same
            ∙ exonic_same (lent m ss es ps is gs ge bs) (known m ss es ps is gs ge bs h) y.index p d.index from to some mark
            ∙ ap (λ (k : Bool). exonic (oriented (lent m ss es ps is gs ge bs)) p y.index k) (g ∙ ap (λ (n : ℕ). is_exonic_splice_region n y.index (bases_of y) p) (sym (count m ss es ps is gs ge bs h)))
