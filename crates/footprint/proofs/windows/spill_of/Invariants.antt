use Rattle.footprint.specs.code.Lent.{span_of, gaps_in}
use Rattle.footprint.specs.ShortIntron.{donor_window, acceptor_window}
use Rattle.footprint.proofs.Spills.{Gathered}
use Rattle.footprint.proofs.windows.spill_of.Given as goal

abbrev pub invariant-loop-i : goal.invariant-loop-i
invariant-loop-i l =
    let t = l.fn.admitted.transcript.now in let gs = gaps_in t.model.strand t.exons in
    Gathered donor_window (span_of l.q) gs l.donor l.i × Gathered acceptor_window (span_of l.q) gs l.acceptor l.i
