use Rattle.std.proofs.Common.{ℕ, ◌+◌, ◌-◌, ◌%◌, ◌<◌, ◌≡◌, refl, sym, ◌∙◌, ap, cond, Option, Some, length, get_or, arith}
use lib.Dec.{ltb}
use Rattle.transcript.specs.Orient.{Oriented}
use Rattle.locate.specs.Place.{total_cds_length}
use Rattle.locate.proofs.Searching.{count}
use Rattle.consequence.specs.Window.{window_of, coding_base}
use Rattle.consequence.specs.Reading.{length_at, codon_length}
use Rattle.consequence.specs.code.Segments.{Rising, Held}
use Rattle.consequence.proofs.CodingBases.{rises, reach, held_next}
use Rattle.consequence.proofs.CodonBases.{length_within, outside_first, one_base, outside_second, two_bases, outside_third, three_bases}
use Rattle.consequence.proofs.reading.fetch_ref_codon.Goals as goal
use Rattle.consequence.proofs.reading.fetch_ref_codon.Goals.{Start}

module _ (b : Start) where
  abbrev view : ℕ → Option ℕ
  view = coding_base b.args.segments.now.strand (window_of b.args.window.now)

  -- the offset of the codon's first base
  abbrev from : ℕ
  from = b.args.k - b.args.k % 3

  -- segment i holds a padded offset
  abbrev HeldAt : ℕ → ℕ → Type 0
  HeldAt k i = Held b.args.sums.now (length b.args.segments.now.intervals.starts.now) k i

  -- the segment that the search finds
  abbrev Found : ℕ → Type 0
  Found i = Rising b.args.sums.now b.args.scalars.segment_count → Held b.args.sums.now b.args.scalars.segment_count from i

  held : (i : ℕ) → Found i → HeldAt from i
  held i h =
      (rw b.requires.segment_count_value at h)
      (rises b.args.segments.now.strand b.args.segments.now.intervals.starts.now b.args.segments.now.intervals.ends.now b.args.sums.now b.args.scalars.cds_start_pad b.args.segments.now.ready b.requires.segments)

  -- there is a sum behind the segment that holds an offset
  ends_at : (k i : ℕ) → HeldAt k i → (i < 512) × (i + 1 < length b.args.sums.now)
  ends_at k i h =
      let x = h.index in
      let f = b.args.segments.now.ready.few in
      let r = reach b.args.segments.now.strand b.args.segments.now.intervals.starts.now b.args.segments.now.intervals.ends.now b.args.sums.now b.args.scalars.cds_start_pad b.args.segments.now.ready b.requires.segments in
      (omega arith, omega arith)

  -- the length of the codon, and that its bases lie within the CDS
  module _ (n : ℕ) (e : n ≡ length_at b.args.scalars.total_cds_length b.args.k) where
    length_is : (t : Oriented) → total_cds_length t ≡ b.args.scalars.total_cds_length → n ≡ codon_length t b.args.k
    length_is t w = e ∙ ap (λ (m : ℕ). length_at m b.args.k) (sym w)

    within : (d : ℕ) → d < n → from + d < get_or b.args.sums.now (length b.args.segments.now.intervals.starts.now) 0
    within d l =
        let w = length_within b.args.scalars.total_cds_length b.args.k b.requires.total_cds_length_value.1 in
        let t = b.requires.total_cds_length_value.0 in
        omega arith

    -- j is i, or the segment behind it where that one begins at an offset from the first base
    abbrev IsNext : ℕ → ℕ → ℕ → Type 0
    IsNext d i j = j ≡ cond (ltb (from + d) (get_or b.args.sums.now (i + 1) 0)) i (i + 1)

    -- the segments that the two steps find
    next : (k d i j : ℕ) → HeldAt k i → from + d ≡ k + 1 → d < n → IsNext d i j → HeldAt (from + d) j
    next k d i j h e l s =
        held_next b.args.segments.now.strand b.args.segments.now.intervals.starts.now b.args.segments.now.intervals.ends.now b.args.sums.now b.args.scalars.cds_start_pad b.args.segments.now.ready b.requires.segments
        k i h (from + d) j e (within d l) s

    held_second : (i j : ℕ) → Found i → 1 < n → IsNext 1 i j → HeldAt (from + 1) j
    held_second i j h l s = next from 1 i j (held i h) refl l s

    held_third :
        (i j m : ℕ) → Found i → 2 < n → IsNext 1 i j → IsNext 2 j m →
        HeldAt (from + 2) m
    held_third i j m h l s r = next (from + 1) 2 j m (held_second i j h (omega arith) s) (omega arith) l r

pub segment_near-i-requires : goal.segment_near-i-requires
segment_near-i-requires c =
    let g = c.args.segments.now in
    let s = c.requires.segments.some in
    let n = count g.strand g.intervals.starts.now g.intervals.ends.now g.ready in
    let r = c.requires.segments.summed.reach in
    let q = c.requires.segment_count_value in
    let w = c.requires.total_cds_length_value in
    let f = g.ready.few in
    (omega arith, omega arith, omega arith, rw q (omega arith))

pub cds_base-requires-clause-held : goal.cds_base-requires-clause-held
cds_base-requires-clause-held c = held (goal.at.cds_base-requires-clause-held c).Start c.segment_near-i.result c.segment_near-i.ensures

pub next_segment-j-requires : goal.next_segment-j-requires
next_segment-j-requires c =
    let b = (goal.at.next_segment-j-requires c).Start in
    ends_at b _ _ (held b c.segment_near-i.result c.segment_near-i.ensures)

pub next_segment-l-requires : goal.next_segment-l-requires
next_segment-l-requires c =
    let b = (goal.at.next_segment-l-requires c).Start in
    ends_at b _ _
    (held_second b c.codon_length-len.result c.codon_length-len.ensures
    c.segment_near-i.result c.next_segment-j.result c.segment_near-i.ensures (omega arith) c.next_segment-j.ensures)

pub cds_base-requires-2-clause-held : goal.cds_base-requires-2-clause-held
cds_base-requires-2-clause-held c =
    held_second (goal.at.cds_base-requires-2-clause-held c).Start c.codon_length-len.result c.codon_length-len.ensures
    c.segment_near-i.result c.next_segment-j.result c.segment_near-i.ensures (omega arith) c.next_segment-j.ensures

pub cds_base-requires-3-clause-held : goal.cds_base-requires-3-clause-held
cds_base-requires-3-clause-held c =
    held_third (goal.at.cds_base-requires-3-clause-held c).Start c.codon_length-len.result c.codon_length-len.ensures
    c.segment_near-i.result c.next_segment-j.result c.next_segment-l.result c.segment_near-i.ensures (omega arith)
    c.next_segment-j.ensures c.next_segment-l.ensures

pub returns-in_err-x : goal.returns-in_err-x
returns-in_err-x c = λ t h s w.
    let b = (goal.at.returns-in_err-x c).Start in
    let n = c.codon_length-len in
    c.from_residual.ensures
    ∙ outside_first t (view b) c.args.k n.result (length_is b n.result n.ensures t w) (sym (c.cds_base.ensures t h s) ∙ c.in_err-x.was)

pub returns-then-len-lt2 : goal.returns-then-len-lt2
returns-then-len-lt2 c = λ t h s w.
    let b = (goal.at.returns-then-len-lt2 c).Start in
    let n = c.codon_length-len in
    ap Some c.codon_of.ensures
    ∙ one_base t (view b) c.args.k n.result (length_is b n.result n.ensures t w) _ (sym (c.cds_base.ensures t h s) ∙ c.in_ok-x.was) (omega arith)

pub returns-in_err-y : goal.returns-in_err-y
returns-in_err-y c = λ t h s w.
    let b = (goal.at.returns-in_err-y c).Start in
    let n = c.codon_length-len in
    c.from_residual-in_err-y.ensures
    ∙ outside_second t (view b) c.args.k n.result (length_is b n.result n.ensures t w) _ (sym (c.cds_base.ensures t h s) ∙ c.in_ok-x.was) (omega arith)
    (sym (c.cds_base-2.ensures t h s) ∙ c.in_err-y.was)

pub returns-then-len-lt3 : goal.returns-then-len-lt3
returns-then-len-lt3 c = λ t h s w.
    let b = (goal.at.returns-then-len-lt3 c).Start in
    let n = c.codon_length-len in
    ap Some c.codon_of-then-len-lt3.ensures
    ∙ two_bases t (view b) c.args.k n.result (length_is b n.result n.ensures t w) _ (sym (c.cds_base.ensures t h s) ∙ c.in_ok-x.was)
    _ (sym (c.cds_base-2.ensures t h s) ∙ c.in_ok-y.was) (omega arith) (omega arith)

pub returns-in_err-z : goal.returns-in_err-z
returns-in_err-z c = λ t h s w.
    let b = (goal.at.returns-in_err-z c).Start in
    let n = c.codon_length-len in
    c.from_residual-in_err-z.ensures
    ∙ outside_third t (view b) c.args.k n.result (length_is b n.result n.ensures t w) _ (sym (c.cds_base.ensures t h s) ∙ c.in_ok-x.was)
    _ (sym (c.cds_base-2.ensures t h s) ∙ c.in_ok-y.was) (omega arith) (sym (c.cds_base-3.ensures t h s) ∙ c.in_err-z.was)

pub returns : goal.returns
returns c = λ t h s w.
    let b = (goal.at.returns c).Start in
    let n = c.codon_length-len in
    ap Some c.codon_of-2.ensures
    ∙ three_bases t (view b) c.args.k n.result (length_is b n.result n.ensures t w) _ (sym (c.cds_base.ensures t h s) ∙ c.in_ok-x.was)
    _ (sym (c.cds_base-2.ensures t h s) ∙ c.in_ok-y.was) _ (omega arith) (sym (c.cds_base-3.ensures t h s) ∙ c.in_ok-z.was)
