use mathlib.Core.Path.{◌≡◌}
use lib.ListN.{drop}
use Rattle.std.specs.List.{list_any, zip}
use Rattle.transcript.specs.Orient.{interval}
use Rattle.transcript.specs.Bases.{inside}
use Rattle.transcript.specs.code.Lent.{any_lent}
use Rattle.transcript.proofs.segments.holds_base.Given as goal

abbrev pub invariant-loop-i : goal.invariant-loop-i
invariant-loop-i l =
    list_any (λ q. inside l.p (interval q.0 q.1)) (drop l.i (zip l.intervals.starts.now l.intervals.ends.now)) ≡ any_lent (λ s e. inside l.p (interval s e)) l.intervals
