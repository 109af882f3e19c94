use Rattle.std.specs.Prelude.{◌≡◌, drop}
use Rattle.transcript.specs.Admission.{ascending}
use Rattle.transcript.specs.code.Lent.{oriented_in}
use Rattle.transcript.proofs.order.in_order.Given as goal

abbrev pub invariant-loop-i : goal.invariant-loop-i
invariant-loop-i l = ascending l.edge (drop l.i (oriented_in l.exons.strand l.exons.intervals)) ≡ ascending 0 (oriented_in l.exons.strand l.exons.intervals)
