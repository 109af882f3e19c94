use Rattle.std.proofs.Common.{refl, sym, ap, arith}
use Rattle.footprint.specs.code.Lent.{span_of, gaps_in}
use Rattle.footprint.specs.ShortIntron.{donor_window, acceptor_window, exonic_splice_spill}
use Rattle.footprint.proofs.Asked.{exons}
use Rattle.footprint.proofs.GapList.{gap_in, gap_end, gap_low}
use Rattle.footprint.proofs.Spills.{gathered_go, gathered_end}
use Rattle.footprint.proofs.windows.spill_of.Goals as goal

pub gap_after-gap-requires : goal.gap_after-gap-requires
gap_after-gap-requires c =
    let n = (exons c.args.admitted.transcript.now c.args.admitted.admitted).even in let e = c.exons-exons.ensures in let f = (rw e.1 at c.saturating_sub-i-end.ensures) in rw e.1 (omega arith, omega arith)

pub donor_window-requires : goal.donor_window-requires
donor_window-requires c =
    let t = c.args.admitted.transcript.now in let x = t.exons in let k = exons t c.args.admitted.admitted in
    let n = k.even in let e = c.exons-exons.ensures in let f = (rw e.1 at c.saturating_sub-i-end.ensures) in
    let l = gap_low t.model.strand x.starts.now x.ends.now c.loop-i.i k.edges (omega arith) (omega arith) in
    rw (sym (ap (λ g. g.start) (rw (e.0, e.1) at c.gap_after-gap.ensures))) at l

pub loop-i-preserved : goal.loop-i-preserved
loop-i-preserved c =
    let t = c.args.admitted.transcript.now in let x = t.exons in let l = c.loop-i in let q = span_of c.args.q in let gs = gaps_in t.model.strand x in
    let k = (exons t c.args.admitted.admitted).even in let e = c.exons-exons.ensures in let f = (rw e.1 at c.saturating_sub-i-end.ensures) in
    let n = gap_in t.model.strand x.starts.now x.ends.now l.i (omega arith) (omega arith) in
    let g = (rw (e.0, e.1) at c.gap_after-gap.ensures) in (
      gathered_go donor_window q gs l.donor l.i l.invariant.0 n g c.donor_window.ensures c.spills_into-donor.ensures refl,
      gathered_go acceptor_window q gs l.acceptor l.i l.invariant.1 n g c.acceptor_window.ensures c.spills_into-acceptor.ensures refl,
    )

pub returns : goal.returns
unfolding exonic_splice_spill
returns c =
    let t = c.args.admitted.transcript.now in let x = t.exons in let l = c.loop-i in let q = span_of c.args.q in let gs = gaps_in t.model.strand x in
    let k = exons t c.args.admitted.admitted in
    let n = k.even in let e = c.exons-exons.ensures in let f = (rw e.1 at c.saturating_sub-i-end.ensures) in
    let z = gap_end t.model.strand x.starts.now x.ends.now l.i (omega arith) (omega arith) in
    let d = gathered_end donor_window q gs l.donor l.i l.invariant.0 z in
    let a = gathered_end acceptor_window q gs l.acceptor l.i l.invariant.1 z in
    rw k.are (λ j. record { donor = d j; acceptor = a j })
