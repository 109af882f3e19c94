-- Gaps of 1 to 13 bases: the one that holds an end of an interval, and the splice windows that reach past it into the exons.
use Rattle.std.specs.Prelude.{ℕ, suc, ◌+◌, ◌-◌, Bool, cond, not, ◌&&◌, ◌||◌, List, [], ◌∷◌, Option, Some, None, leb, ltb}
use Rattle.common.specs.Lists.{any}
use Rattle.footprint.specs.declared.SpliceSpill.{SpliceSpill}
use Rattle.footprint.specs.Ranges.{splice_canonical_max, frameshift_intron_max_gap}
use Rattle.transcript.specs.Orient.{Interval, interval, Oriented}
use Rattle.transcript.specs.Bases.{inside, size, gaps}
use Rattle.footprint.specs.Flank.{is_insertion}

-- a gap of 1 to 13 bases
abbrev pub is_frameshift_gap : Interval → Bool
is_frameshift_gap gap = ltb 0 (size gap) && leb (size gap) frameshift_intron_max_gap

-- the gap holds an end base of the interval; of an insertion, the bases on both its sides
abbrev pub holds_end : Interval → Interval → Bool
holds_end q gap = cond (is_insertion q) (ltb gap.start q.start && ltb q.start gap.end) (inside q.start gap || inside (q.end - 1) gap)

-- the gap is short and holds an end of the interval
abbrev pub ends_in : Interval → Interval → Bool
ends_in q gap = is_frameshift_gap gap && holds_end q gap

-- the index of the first such gap, the first of all having index k
unfoldable pub endpoint_from : ℕ → Interval → List Interval → Option ℕ
endpoint_from k q [] = None
endpoint_from k q (gap ∷ rest) = cond (ends_in q gap) (Some k) (endpoint_from (suc k) q rest)

abbrev pub frameshift_intron_endpoint : Oriented → Interval → Option ℕ
frameshift_intron_endpoint t q = endpoint_from 0 q (gaps t.exons)

abbrev pub overlap : Interval → Interval → Bool
overlap q x = ltb q.start x.end && ltb x.start q.end

-- the interval does not touch the gap and overlaps the window
abbrev pub hits : Interval → Interval → Interval → Bool
hits q gap window = not (overlap q gap) && overlap q window

-- two bases from each end of the gap inward; at gap 1 one of each lies in the exon opposite
abbrev pub donor_window : Interval → Interval
donor_window gap = interval gap.start (gap.start + splice_canonical_max)

abbrev pub acceptor_window : Interval → Interval
acceptor_window gap = interval (gap.end - splice_canonical_max) gap.end

-- the gap is short, and the interval hits this window of it
abbrev pub spills_into : (Interval → Interval) → Interval → Interval → Bool
spills_into window q gap = is_frameshift_gap gap && hits q gap (window gap)

-- each gap is judged for itself; neither window hit stands for the Rust's None
unfoldable pub exonic_splice_spill : Oriented → Interval → SpliceSpill
exonic_splice_spill t q = record {
  donor = any (spills_into donor_window q) (gaps t.exons);
  acceptor = any (spills_into acceptor_window q) (gaps t.exons);
}
