-- Exons that are lent as two lists of numbers, and the code's intervals, as the definitions have them.
use Rattle.std.specs.Prelude.{List, ℕ}
use Rattle.transcript.specs.declared.Strand.{Strand}
use Rattle.transcript.specs.declared.Intervals.{Intervals}
use Rattle.transcript.specs.Orient.{Interval, interval}
use Rattle.transcript.specs.Bases.{gaps}
use Rattle.transcript.specs.code.Lent.{lent_exons}
use Rattle.footprint.specs.declared.span.Span.{Span}

abbrev pub span_of : Span → Interval
span_of x = interval x.start x.end

-- the gaps between lent exons
abbrev pub lent_gaps : Strand → List ℕ → List ℕ → List Interval
lent_gaps strand starts ends = gaps (lent_exons strand starts ends)

-- the gaps between the exons of a struct that lends them
abbrev pub gaps_in : Strand → Intervals → List Interval
gaps_in strand x = lent_gaps strand x.starts.now x.ends.now
