use Rattle.std.proofs.Common.{ℕ, ◌+◌, sym, ◌∙◌, ap, arith, drop}
use Rattle.transcript.specs.Orient.{Interval}
use Rattle.transcript.specs.Admission.{ascending}
use Rattle.transcript.specs.code.Lent.{oriented_in}
use Rattle.transcript.proofs.Listed.{oriented_length, oriented_at, edges_at}
use Rattle.transcript.proofs.Steps.{order_stop, order_go, order_end}
use Rattle.transcript.proofs.order.in_order.Goals as goal

pub start_within-requires : goal.start_within-requires
start_within-requires c =
    let x = c.args.exons.intervals in
    let m = edges_at x.starts.now x.ends.now c.loop-i.i c.requires.good_edges c.requires.even (omega arith) in
    omega arith

pub returns-then-start_within-edge : goal.returns-then-start_within-edge
returns-then-start_within-edge c =
    let l = c.loop-i in
    let x = c.args.exons.intervals in
    let n = oriented_length c.args.exons.strand x.starts.now x.ends.now c.requires.even in
    let f = ap (λ (y : Interval). y.start) (oriented_at c.args.exons.strand x.starts.now x.ends.now l.i c.requires.even (omega arith)) in
    let g = c.start_within.ensures in
    sym (order_stop (oriented_in c.args.exons.strand x) l.edge l.i (omega arith) (omega arith)) ∙ l.invariant

pub end_within-edge-requires : goal.end_within-edge-requires
end_within-edge-requires c =
    let x = c.args.exons.intervals in
    let m = edges_at x.starts.now x.ends.now c.loop-i.i c.requires.good_edges c.requires.even (omega arith) in
    omega arith

pub loop-i-preserved : goal.loop-i-preserved
loop-i-preserved c =
    let l = c.loop-i in
    let x = c.args.exons.intervals in
    let xs = oriented_in c.args.exons.strand x in
    let n = oriented_length c.args.exons.strand x.starts.now x.ends.now c.requires.even in
    let s = oriented_at c.args.exons.strand x.starts.now x.ends.now l.i c.requires.even (omega arith) in
    let f = ap (λ (y : Interval). y.start) s in
    let t = ap (λ (y : Interval). y.end) s in
    let g = c.start_within.ensures in
    ap (λ (k : ℕ). ascending k (drop (l.i + 1) xs)) (c.end_within-edge.ensures ∙ sym t)
    ∙ sym (order_go xs l.edge l.i (omega arith) (omega arith)) ∙ l.invariant

pub returns : goal.returns
returns c =
    let l = c.loop-i in
    let x = c.args.exons.intervals in
    let n = oriented_length c.args.exons.strand x.starts.now x.ends.now c.requires.even in
    sym (order_end (oriented_in c.args.exons.strand x) l.edge l.i (omega arith)) ∙ l.invariant
