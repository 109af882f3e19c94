-- A base of an exon of an admitted transcript, in the terms in which the code reads its place without an index.
-- Assumes nothing.
use Prim.Native.Nat.{ℕ, ◌+◌, ◌-◌, ◌≤◌, ◌<◌}
use mathlib.Core.Path.{◌≡◌, sym, ◌∙◌, ap}
use mathlib.Core.Bool.{Bool, true, false}
use mathlib.Core.List.{List, map}
use native.Mathlib.Omega.{arith}
use lib.ListN.{length, get_or}
use borrow.Author.Tests.{lt-ltb, le-ltb}
use Rattle.transcript.specs.declared.TranscriptModel.{TranscriptModel}
use Rattle.transcript.specs.Limits.{top}
use Rattle.transcript.specs.Transcript.{Transcript, exons_of, lent, cds_start, cds_end}
use Rattle.transcript.specs.Orient.{Interval, interval, orient, Oriented, oriented}
use Rattle.transcript.specs.Bases.{inside, sum, bases_in, total_size}
use Rattle.transcript.specs.Admission.{admission}
use Rattle.transcript.specs.code.Lent.{exon_size, pad_of_phases, lent_exons}
use Rattle.locate.specs.declared.VariantLocation.TheVariants.{NonCodingExon}
use Rattle.locate.specs.Index.{cumulative, index_scalars}
use Rattle.locate.specs.Place.{is_exonic_splice_region, exonic}
use Rattle.locate.specs.declared.Feature.{Feature}
use Rattle.locate.specs.code.Features.{bases_of}
use Rattle.locate.specs.code.Search.{Holds}
use Rattle.locate.specs.code.Exonic.{counts, exonic_of, Countable, head_of}
use Rattle.transcript.proofs.Orient.{inside_by}
use Rattle.transcript.proofs.Listed.{nowhere}
use Rattle.locate.proofs.Searching.{end_at_lem, end_top}
use Rattle.locate.proofs.PrefixSums.{cumulative_last, sizes_length}
use Rattle.locate.proofs.CodingExons.{first_exon}
use Rattle.locate.proofs.ExonicCounts.{index_counts, numbers, utr5_is}
use Rattle.locate.proofs.ExonicPlace.{countable, exonic_same}
use Rattle.locate.proofs.LentIndex.{sizes_turned}
use Rattle.locate.proofs.PlaceFacts.{move, move_place}
use Rattle.locate.proofs.LentTranscript.{known, ad, exons_are, segments_are, count, ready, coding_is, cds_is, pad_is, pad_2, head_is}

module _ (m : TranscriptModel) (ss es ps is gs ge bs : List ℕ) (h : admission (lent m ss es ps is gs ge bs) ≡ 0) where
  abbrev t : Transcript
  t = lent m ss es ps is gs ge bs

  abbrev o : Oriented
  o = oriented (lent m ss es ps is gs ge bs)

  -- the length of the CDS
  coding_length : get_or (cumulative 0 (map exon_size (exons_of gs ge))) (length gs) 0 ≡ total_size o.segments
  coding_length =
      let x = ad m ss es ps is gs ge bs h in
      let n = ap (λ (k : ℕ). get_or (cumulative 0 (map exon_size (exons_of gs ge))) k 0) (sizes_length gs ge x.even_segments_lem.ends) in
      let l = cumulative_last 0 (map exon_size (exons_of gs ge)) in
      let s = ap sum (sizes_turned m.strand (exons_of gs ge) x.segment_edges) in
      let g = ap total_size (segments_are m ss es ps is gs ge bs h) in
      omega arith

  module _ (y : Feature) (p : ℕ) (d : Holds o y p) where
    pub index_low : y.index < length ss
    index_low = let n = count m ss es ps is gs ge bs h in let l = d.index in omega arith

    pub end_high : y.end ≤ top
    end_high =
        let f = ready m ss es ps is gs ge bs h in
        let e = d.end_is ∙ ap (λ (xs : List Interval). (get_or xs y.index nowhere).end) (exons_are m ss es ps is gs ge bs h) ∙ end_at_lem m.strand ss es f y.index index_low in
        let l = end_top m.strand ss es f y.index index_low in
        omega arith

    from : (get_or o.exons y.index nowhere).start ≤ p
    from = let s = d.start_is in let l = d.from in omega arith

    to : p < (get_or o.exons y.index nowhere).end
    to = let s = d.end_is in let l = d.to in omega arith

    pub held : inside p (get_or (lent_exons m.strand ss es) y.index nowhere) ≡ true
    held = rw (← exons_are m ss es ps is gs ge bs h) (inside_by p (get_or o.exons y.index nowhere) from to)

    module _ (mark : Bool) (em : mark ≡ is_exonic_splice_region (length ss) y.index (bases_of y) p) where
      marked : exonic o p y.index mark ≡ exonic o p y.index (is_exonic_splice_region (length o.exons) y.index (bases_of y) p)
      marked = ap (exonic o p y.index) (em ∙ ap (λ (n : ℕ). is_exonic_splice_region n y.index (bases_of y) p) (sym (count m ss es ps is gs ge bs h)))

      plain : o.coding ≡ false → NonCodingExon y.index mark ≡ exonic o p y.index mark
      unfolding exonic
      plain c = rw c

      pub without_cds : length gs ≡ 0 → NonCodingExon y.index mark ≡ exonic o p y.index (is_exonic_splice_region (length o.exons) y.index (bases_of y) p)
      without_cds z = plain (sym (coding_is m ss es ps is gs ge bs h) ∙ le-ltb 0 (length gs) (omega arith)) ∙ marked

    -- the numbers that the code computes where there is a CDS
    module _ (z : 0 < length gs) (a b before utr5 coded pad first : ℕ) (ea : a ≡ (orient m.strand (cds_start m.cds) (cds_end m.cds)).start) (eb : b ≡ (orient m.strand (cds_start m.cds) (cds_end m.cds)).end)
        (ew : before ≡ bases_in (lent_exons m.strand ss es) 0 p) (eu : utr5 ≡ bases_in (lent_exons m.strand ss es) 0 a)
        (el : coded ≡ get_or (cumulative 0 (map exon_size (exons_of gs ge))) (length gs) 0) (ep : pad ≡ pad_of_phases ps) (ef : first ≡ head_of is) where
      some : true ≡ o.coding
      some = sym (lt-ltb 0 (length gs) z) ∙ coding_is m ss es ps is gs ge bs h

      cds_same : interval a b ≡ o.cds
      cds_same = (λ k. interval (ea k) (eb k)) ∙ sym (cds_is m ss es ps is gs ge bs h (sym some))

      same_counts : counts before utr5 (utr5 + coded) pad first ≡ index_counts o p y.index (first_exon t)
      same_counts =
          let f = known m ss es ps is gs ge bs h in
          let x = sym (exons_are m ss es ps is gs ge bs h) in
          let w = ew ∙ ap (λ (xs : List Interval). bases_in xs 0 p) x ∙ sym (numbers t f y.index p (first_exon t) d.index from to).before in
          let u : utr5 ≡ (index_scalars o).utr5_exonic_len = eu ∙ (λ k. bases_in (x k) 0 (cds_same k).start) ∙ sym (utr5_is t f y.index p (first_exon t) d.index from to (sym some)) in
          let c : coded ≡ (index_scalars o).total_cds_length - (index_scalars o).cds_start_pad = (let n = coding_length in omega arith) in
          let g = ep ∙ sym (pad_is m ss es ps is gs ge bs h) in
          let e = ef ∙ head_is m ss es ps is gs ge bs h in
          λ k. counts (w k) (u k) (u k + c k) (g k) (e k)

      pub countable_alone : Countable (counts before utr5 (utr5 + coded) pad first) (interval a b) p y.index
      countable_alone =
          let e = end_high in let l = d.to in
          move _ _ _ _ p y.index same_counts cds_same (countable t (known m ss es ps is gs ge bs h) y.index p d.index from to (sym some) (omega arith) (pad_2 m ss es ps is gs ge bs h))

      pub exonic_alone : (mark : Bool) → mark ≡ is_exonic_splice_region (length ss) y.index (bases_of y) p
          → exonic_of (counts before utr5 (utr5 + coded) pad first) (interval a b) p y.index mark ≡ exonic o p y.index (is_exonic_splice_region (length o.exons) y.index (bases_of y) p)
      exonic_alone mark em = move_place _ _ _ _ p y.index mark same_counts cds_same ∙ exonic_same t (known m ss es ps is gs ge bs h) y.index p d.index from to (sym some) mark ∙ marked mark em
