-- Offsets and positions read from the index: a cumulative length and a place in its interval.
-- Assumes nothing.
use Prim.Native.Nat.{ℕ, zero, suc, ◌+◌, ◌-◌, ◌≤◌, ◌<◌}
use mathlib.Core.Path.{◌≡◌, sym, ◌∙◌, ap}
use mathlib.Core.Bool.{true, ◌&&◌}
use mathlib.Core.List.{List, [], ◌∷◌, map}
use native.Mathlib.Omega.{arith}
use lib.ListN.{length, get_or, replicate, length-map, length-append}
use lib.Dec.{ltb}
use borrow.Author.Tests.{lt-ltb, le-ltb, ltb-true}
use Rattle.common.proofs.TestParts.{on_test, and_true}
use Rattle.transcript.specs.Limits.{top}
use Rattle.transcript.specs.Transcript.{Transcript}
use Rattle.transcript.specs.Orient.{Interval, Oriented, oriented}
use Rattle.transcript.specs.Bases.{inside, inside_any, size, bases_in, total_size, last_end}
use Rattle.transcript.specs.Cuts.{Cut, cut_of, meet, cuts}
use Rattle.locate.specs.Place.{interval_index, cds_offset, cdna_position}
use Rattle.common.specs.Stored.{filled}
use Rattle.locate.specs.Index.{cumulative, index_scalars, locate_index}
use Rattle.locate.specs.code.Sums.{first_sum, Sums, ExonSums, CdsSums}
use Rattle.transcript.proofs.Ascends.{Ascends}
use Rattle.transcript.proofs.Cuts.{segments_from, cuts_some}
use Rattle.transcript.proofs.Orient.{inside_start, inside_end}
use Rattle.transcript.proofs.Facts.{Facts}
use Rattle.locate.proofs.Cdna.{coding_in_cds, cdna_of_offset_lem}
use Rattle.locate.proofs.Coding.{segments_inside}
use Rattle.transcript.proofs.Listed.{nowhere}
use Rattle.locate.proofs.Sums.{bases_le, sizes_le, sum_before, starts_from}
use Rattle.locate.proofs.PrefixSums.{cumulative_length, cumulative_first, cumulative_le, cumulative_last, filled_at}

-- an array that begins with cumulative lengths, from where they were stored
module _ (first : ℕ) (xs : List Interval) (sums : List ℕ) (l : length xs < length sums)
    (e : (k : ℕ) → k ≤ length xs → get_or sums k 0 ≡ get_or (cumulative first (map size xs)) k 0) where
  pub first_sum_lem : first_sum sums ≡ first
  first_sum_lem = e 0 (omega arith) ∙ cumulative_first first (map size xs)

  pub sums_of : first ≤ 2 → Sums xs sums
  sums_of m =
      let f = first_sum_lem in
      record { reach = l; are = λ k n. e k n ∙ ap (λ (c : ℕ). get_or (cumulative c (map size xs)) k 0) (sym f); low = omega arith }

-- the arrays of an index begin with them
module _ (first : ℕ) (xs : List Interval) where
  filled_reach : length xs < length (filled 513 (cumulative first (map size xs)))
  filled_reach =
      let n = length-map xs size in
      let l = cumulative_length first (map size xs) in
      let a = length-append (cumulative first (map size xs)) (replicate {A = ℕ} (513 - length (cumulative first (map size xs))) 0) in
      omega arith

  filled_are : (k : ℕ) → k ≤ length xs → get_or (filled 513 (cumulative first (map size xs))) k 0 ≡ get_or (cumulative first (map size xs)) k 0
  filled_are k l = let n = length-map xs size in filled_at first (map size xs) k (omega arith)

  pub filled_sums : first ≤ 2 → Sums xs (filled 513 (cumulative first (map size xs))) × (first_sum (filled 513 (cumulative first (map size xs))) ≡ first)
  filled_sums l = (sums_of first xs (filled 513 (cumulative first (map size xs))) filled_reach filled_are l, first_sum_lem first xs (filled 513 (cumulative first (map size xs))) filled_reach filled_are)

pub index_exons : (o : Oriented) → ExonSums o (locate_index o).cumulative_exons
index_exons o = filled_sums 0 o.exons (omega arith)

pub index_cds : (o : Oriented) → o.pad ≤ 2 → CdsSums o (locate_index o).cumulative_cds
index_cds o l = filled_sums o.pad o.segments l

module _ (xs : List Interval) (sums : List ℕ) (h : Ascends 0 xs) (s : Sums xs sums) where
  -- a base of interval k: what the array has at k and the place in the interval are the bases before it
  pub read_sum : (k p : ℕ) → k < length xs → (get_or xs k nowhere).start ≤ p → p < (get_or xs k nowhere).end
      → get_or sums k 0 + (p - (get_or xs k nowhere).start) ≡ first_sum sums + bases_in xs 0 p
  read_sum k p l a b = ap (λ (c : ℕ). c + (p - (get_or xs k nowhere).start)) (s.are k (omega arith)) ∙ sum_before xs 0 (first_sum sums) k p h l a b

  -- what is read can be added to
  pub sum_low : last_end xs ≤ top → (k : ℕ) → k ≤ length xs → get_or sums k 0 ≤ 2 + top
  sum_low e k l =
      let n = length-map xs size in
      let a = s.are k l in
      let b = cumulative_le (first_sum sums) (map size xs) k (omega arith) in
      let c = sizes_le xs 0 h in
      let d = s.low in
      omega arith

  -- the last of them is the whole
  pub sum_last : get_or sums (length xs) 0 ≡ first_sum sums + total_size xs
  sum_last =
      let n = length-map xs size in
      s.are (length xs) (omega arith) ∙ ap (λ (k : ℕ). get_or (cumulative (first_sum sums) (map size xs)) k 0) (sym n) ∙ cumulative_last (first_sum sums) (map size xs)

-- the cDNA position of a coding base, from the index and its padded offset; what the code needs to subtract and to add
pub record CdnaOf (o : Oriented) (p : ℕ) : Type 0 where
  pub padded : o.pad ≤ cds_offset o p
  pub fits : (index_scalars o).utr5_exonic_len + (cds_offset o p - o.pad) ≤ top
  pub is : (index_scalars o).utr5_exonic_len + (cds_offset o p - o.pad) + 1 ≡ cdna_position o p

pub index_cdna : (t : Transcript) → Facts t → (p : ℕ) → inside_any p (oriented t).segments ≡ true → CdnaOf (oriented t) p
index_cdna t f p h =
    let i = coding_in_cds t f p h in
    let c = (and_true (oriented t).coding (inside p (oriented t).cds) (and_true ((oriented t).coding && inside p (oriented t).cds) (inside_any p (oriented t).exons) (sym (segments_inside t f p) ∙ h)).0).0 in
    let q = cdna_of_offset_lem t f p h in
    let l = bases_le (oriented t).exons 0 p f.order in
    let e = inside_end p (oriented t).cds i in
    let u = f.cds_high in
    record { padded = omega arith; fits = rw c (omega arith); is = rw c (sym q) }

-- where the CDS has begun, exon i of a coding base has segment i: no exon up to it is without coding bases
dense : (cds : Interval) (e m : ℕ) (xs : List Interval) (i p : ℕ) → Ascends e xs → cds.start ≤ e → i < length xs
    → (get_or xs i nowhere).start ≤ p → p < (get_or xs i nowhere).end → p < cds.end → interval_index (segments_from cds m xs) p ≡ i
unfolding interval_index
dense cds e m [] i p h s l a b c = absurd (omega arith)
dense cds e m (x ∷ xs) zero p h s l a b c =
    let f = h.0 in
    rw (cuts_some cds m x xs (omega arith), lt-ltb p (meet x cds).end (omega arith))
dense cds e m (x ∷ xs) (suc i) p h s l a b c =
    let f = h.0 in
    let g = h.1 in
    let k = starts_from xs x.end i h.2 (omega arith) in
    rw (cuts_some cds m x xs (omega arith), le-ltb p (meet x cds).end (omega arith)) (ap suc (dense cds x.end (suc m) xs i p h.2 (omega arith) (omega arith) a b c))

-- the exon index of the first cut
abbrev pub first_index : List Cut → ℕ
first_index [] = 0
first_index (c ∷ cs) = c.index

-- the segment of a coding base of exon i: i less the exon index of the first segment
pub cut_index : (cds : Interval) (e m : ℕ) (xs : List Interval) (i p : ℕ) → Ascends e xs → i < length xs
    → (get_or xs i nowhere).start ≤ p → p < (get_or xs i nowhere).end → cds.start ≤ p → p < cds.end → interval_index (segments_from cds m xs) p + first_index (cuts cds m xs) ≡ m + i
unfolding interval_index cuts
cut_index cds e m [] i p h l a b s c = absurd (omega arith)
cut_index cds e m (x ∷ xs) zero p h l a b s c = rw (lt-ltb (meet x cds).start (meet x cds).end (omega arith), lt-ltb p (meet x cds).end (omega arith)) (omega arith)
cut_index cds e m (x ∷ xs) (suc i) p h l a b s c =
    let g = h.1 in
    let k = starts_from xs x.end i h.2 (omega arith) in
    on_test (ltb (meet x cds).start (meet x cds).end)
    (λ t. (let u = ltb-true (meet x cds).start (meet x cds).end t in
    let d = dense cds x.end (suc m) xs i p h.2 (omega arith) (omega arith) a b c in
    rw (t, le-ltb p (meet x cds).end (omega arith), d) (omega arith)))
    (λ t. (let d = cut_index cds x.end (suc m) xs i p h.2 (omega arith) a b s c in rw t (d ∙ next m i)))
  where
    next : (m i : ℕ) → suc m + i ≡ m + suc i
    next m i = omega arith

pub segment_of_exon : (t : Transcript) → Facts t → (i p : ℕ) → i < length (oriented t).exons
    → (get_or (oriented t).exons i nowhere).start ≤ p → p < (get_or (oriented t).exons i nowhere).end → inside p (oriented t).cds ≡ true
    → interval_index (oriented t).segments p + first_index (map (cut_of t.model.strand) t.segments) ≡ i
segment_of_exon t f i p l a b c =
    let d = cut_index (oriented t).cds 0 0 (oriented t).exons i p f.order l a b (inside_start p (oriented t).cds c) (inside_end p (oriented t).cds c) in
    let s = ap (λ (gs : List Interval). interval_index gs p) f.segments in
    let g = ap first_index f.cut in
    omega arith
