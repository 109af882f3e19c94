-- An interval of those that are lent with their strand.
use Rattle.std.specs.Prelude.{ℕ, get_or}
use Rattle.transcript.specs.declared.Stranded.{Stranded}
use Rattle.transcript.specs.Orient.{Interval, orient}

-- interval i, oriented
abbrev pub interval_at : Stranded → ℕ → Interval
interval_at x i = orient x.strand (get_or x.intervals.starts.now i 0) (get_or x.intervals.ends.now i 0)
