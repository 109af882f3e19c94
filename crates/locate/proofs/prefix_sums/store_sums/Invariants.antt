use Rattle.locate.specs.Index.{cumulative}
use Rattle.common.specs.Stored.{stored}
use Rattle.transcript.specs.code.Lent.{exon_size}
use Rattle.transcript.specs.Transcript.{exons_of}
use lib.ListN.{get_or, take}
use mathlib.Core.List.{List, map}
use mathlib.Core.Path.{◌≡◌}
use Prim.Native.Nat.{ℕ}
use Rattle.locate.proofs.prefix_sums.store_sums.Given as goal

abbrev pub sizes : List ℕ → List ℕ → List ℕ
sizes starts ends = map exon_size (exons_of starts ends)

abbrev pub invariant-loop-i : goal.invariant-loop-i
invariant-loop-i l = (l.sums ≡ stored l.initial.sums l.at (take l.i (cumulative l.first (sizes l.intervals.starts.now l.intervals.ends.now)))) × (l.acc ≡ get_or (cumulative l.first (sizes l.intervals.starts.now l.intervals.ends.now)) l.i 0)
