use mathlib.Core.Path.{◌≡◌}
use mathlib.Core.List.{List, map}
use Prim.Native.Nat.{ℕ}
use lib.ListN.{get_or}
use Rattle.transcript.specs.Transcript.{exons_of}
use Rattle.locate.specs.Index.{cumulative}
use Rattle.transcript.specs.code.Lent.{exon_size}
use Rattle.locate.proofs.lengths.length_before.Given as goal

abbrev pub sums : List ℕ → List ℕ → List ℕ
sums starts ends = cumulative 0 (map exon_size (exons_of starts ends))

abbrev pub invariant-loop-i : goal.invariant-loop-i
invariant-loop-i l = l.acc ≡ get_or (sums l.ordered.intervals.starts.now l.ordered.intervals.ends.now) l.i 0
