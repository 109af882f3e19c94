use mathlib.Core.Path.{◌≡◌}
use native.Mathlib.Omega.{arith}
use Rattle.transcript.specs.code.Lent.{lent_exons}
use Rattle.transcript.proofs.Listed.{first_at}
use Rattle.locate.proofs.Halving.{later_half, earlier_half}
use Rattle.locate.proofs.Searching.{ascends, count}
use Rattle.locate.proofs.search.Ordered.last_started.Goals as goal
use Rattle.locate.proofs.search.Ordered.last_started.Goals.{then-at-p, else-at-p}

pub loop-left-init : goal.loop-left-init
loop-left-init c =
    let xs = lent_exons c.args.self.strand c.args.self.intervals.starts.now c.args.self.intervals.ends.now in
    let n = count c.args.self.strand c.args.self.intervals.starts.now c.args.self.intervals.ends.now c.args.self.ready in
    let r = c.requires.some in
    let f = first_at xs (omega arith) in
    let g = c.requires.ends_bound in
    (r, omega arith, record { lo_le = omega arith; hi_le = omega arith; before = λ k q. (let z : k ≡ 0 = omega arith in rw z (omega arith)); after = λ k q t. absurd (omega arith) }, c.start-start.ensures)

pub loop-left-preserved : goal.loop-left-preserved
loop-left-preserved c =
    let l = c.loop-left in
    let xs = lent_exons c.args.self.strand c.args.self.intervals.starts.now c.args.self.intervals.ends.now in
    let o = ascends c.args.self.strand c.args.self.intervals.starts.now c.args.self.intervals.ends.now c.args.self.ready in
    let f = c.start-at.ensures in
    elim c.if-at-p.branch [
      | then-at-p w ↦ rw (w.index-is, w.start-is) (omega arith, omega arith, later_half xs c.args.p l.index l.left o l.invariant.2 (omega arith) (let t = w.if-at-p.true in omega arith), f)
      | else-at-p w ↦ rw (w.index-is, w.start-is) (omega arith, omega arith, earlier_half xs c.args.p l.index l.left o l.invariant.2 (omega arith) (let t = w.if-at-p.false in omega arith), l.invariant.3)
    ]

pub returns : goal.returns
returns c =
    let l = c.loop-left in
    let n = count c.args.self.strand c.args.self.intervals.starts.now c.args.self.intervals.ends.now c.args.self.ready in
    let i = l.invariant.2 in
    record { index = omega arith; started = record { before = λ k q. i.before k (omega arith); after = λ k q r. i.after k (omega arith) r }; start_is = l.invariant.3 }
