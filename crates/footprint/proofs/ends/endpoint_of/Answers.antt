use Rattle.std.proofs.Common.{sym, ◌∙◌, ap, arith}
use Rattle.footprint.specs.code.Lent.{span_of, gaps_in}
use Rattle.footprint.specs.ShortIntron.{ends_in}
use Rattle.footprint.proofs.Asked.{exons}
use Rattle.footprint.proofs.GapList.{gap_in, gap_end}
use Rattle.footprint.proofs.Endpoints.{endpoint_stop, endpoint_go, endpoint_none}
use Rattle.footprint.proofs.ends.endpoint_of.Goals as goal

pub gap_after-requires : goal.gap_after-requires
gap_after-requires c =
    let n = (exons c.args.admitted.transcript.now c.args.admitted.admitted).even in let e = c.exons-exons.ensures in let f = (rw e.1 at c.saturating_sub-i-end.ensures) in rw e.1 (omega arith, omega arith)

pub overflow_cast-result : goal.overflow_cast-result
overflow_cast-result c =
    let n = (exons c.args.admitted.transcript.now c.args.admitted.admitted).few in let e = c.exons-exons.ensures in let f = (rw e.1 at c.saturating_sub-i-end.ensures) in omega arith

pub returns-then-ends_in : goal.returns-then-ends_in
returns-then-ends_in c =
    let t = c.args.admitted.transcript.now in let x = t.exons in let l = c.loop-i in let q = span_of c.args.q in let gs = gaps_in t.model.strand x in
    let k = exons t c.args.admitted.admitted in let n = k.even in let e = c.exons-exons.ensures in let f = (rw e.1 at c.saturating_sub-i-end.ensures) in
    rw k.are (endpoint_stop q gs l.i (gap_in t.model.strand x.starts.now x.ends.now l.i (omega arith) (omega arith))
    (ap (ends_in q) (sym (rw (e.0, e.1) at c.gap_after.ensures)) ∙ sym c.ends_in.ensures ∙ c.if-ends_in.true) ∙ l.invariant)

pub loop-i-preserved : goal.loop-i-preserved
loop-i-preserved c =
    let t = c.args.admitted.transcript.now in let x = t.exons in let l = c.loop-i in let q = span_of c.args.q in let gs = gaps_in t.model.strand x in
    let n = (exons t c.args.admitted.admitted).even in let e = c.exons-exons.ensures in let f = (rw e.1 at c.saturating_sub-i-end.ensures) in
    endpoint_go q gs l.i (gap_in t.model.strand x.starts.now x.ends.now l.i (omega arith) (omega arith))
    (ap (ends_in q) (sym (rw (e.0, e.1) at c.gap_after.ensures)) ∙ sym c.ends_in.ensures ∙ c.if-ends_in.false) ∙ l.invariant

pub returns : goal.returns
returns c =
    let t = c.args.admitted.transcript.now in let x = t.exons in let l = c.loop-i in
    let k = exons t c.args.admitted.admitted in let n = k.even in let e = c.exons-exons.ensures in let f = (rw e.1 at c.saturating_sub-i-end.ensures) in
    rw k.are (endpoint_none (span_of c.args.q) (gaps_in t.model.strand x) l.i (gap_end t.model.strand x.starts.now x.ends.now l.i (omega arith) (omega arith)) ∙ l.invariant)
