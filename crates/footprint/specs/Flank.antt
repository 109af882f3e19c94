-- Where an interval lies beside a transcript, in oriented coordinates. An interval with start equal to end is an insertion.
use Rattle.std.specs.Prelude.{ℕ, ◌+◌, ◌-◌, Bool, cond, leb, ltb, eqb}
use Rattle.footprint.specs.declared.Flank.{Flank}
use Rattle.footprint.specs.declared.Ranges.{Ranges}
use Rattle.transcript.specs.Orient.{Interval, interval, Oriented}
use Rattle.transcript.specs.Bases.{first_start, last_end}

abbrev pub is_insertion : Interval → Bool
is_insertion q = eqb q.start q.end

-- the distance of an interval with this number of bases between: a base next to the transcript is at 1, an insertion next to it at 0
abbrev pub flank_distance : Interval → ℕ → ℕ
flank_distance q bases = cond (is_insertion q) bases (bases + 1)

-- on one side: near where fewer bases lie between than the flank has, so a base up to that distance and an insertion up to one less
abbrev pub flank_by : Ranges → (ℕ → Flank) → Interval → ℕ → Flank
flank_by r side q bases = cond (ltb bases r.flank) (side (flank_distance q bases)) Flank.Far

-- beside the interval `x`
abbrev pub flank_of : Ranges → Interval → Interval → Flank
flank_of r x q =
    cond (leb q.end x.start) (flank_by r Flank.Upstream q (x.start - q.end))
    (cond (leb x.end q.start) (flank_by r Flank.Downstream q (q.start - x.end))
    Flank.Overlaps)

-- beside the transcript, which goes from the start of its first exon to the end of its last
unfoldable pub classify_flank : Ranges → Oriented → Interval → Flank
classify_flank r t q = flank_of r (interval (first_start t.exons) (last_end t.exons)) q
