use Prim.Native.Nat.{◌+◌, ◌≤◌, ◌<◌}
use mathlib.Core.Path.{◌≡◌}
use lib.ListN.{length, get_or}
use Rattle.transcript.specs.code.Lent.{lent_exons}
use Rattle.transcript.proofs.Listed.{nowhere}
use Rattle.locate.proofs.Halving.{Bracket}
use Rattle.locate.proofs.search.Ordered.last_started.Given as goal

abbrev pub invariant-loop-left : goal.invariant-loop-left
invariant-loop-left l = (0 < l.left) × (l.index + l.left ≤ length l.self.intervals.starts.now) × Bracket (lent_exons l.self.strand l.self.intervals.starts.now l.self.intervals.ends.now) l.p (l.index + 1) (l.index + l.left) × (l.start ≡ (get_or (lent_exons l.self.strand l.self.intervals.starts.now l.self.intervals.ends.now) l.index nowhere).start)

abbrev pub decreases-loop-left : goal.decreases-loop-left
decreases-loop-left l = l.left
