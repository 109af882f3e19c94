use Prim.Native.Nat.{◌<◌}
use mathlib.Core.Path.{sym, ◌∙◌}
use native.Mathlib.Omega.{arith}
use lib.ListN.{length}
use borrow.Author.Tests.{eqb-true}
use Rattle.transcript.specs.code.Lent.{lent_exons}
use Rattle.locate.proofs.Walking.{starts_ascend}
use Rattle.locate.proofs.Searching.{ascends, count}
use Rattle.locate.proofs.search.Ordered.started.Goals as goal
use Rattle.locate.proofs.search.Ordered.started.Goals.{After-last_started}

pub returns-then-is_empty : goal.returns-then-is_empty
returns-then-is_empty c =
    let n = count c.args.self.strand c.args.self.intervals.starts.now c.args.self.intervals.ends.now c.args.self.ready in
    let e = eqb-true (length c.args.self.intervals.starts.now) 0 (sym c.is_empty.ensures ∙ c.if-is_empty.true) in
    (omega arith, record { before = λ k q. absurd (omega arith); after = λ k q r. absurd (omega arith) })

pub returns-then-p-start : goal.returns-then-p-start
returns-then-p-start c =
    let xs = lent_exons c.args.self.strand c.args.self.intervals.starts.now c.args.self.intervals.ends.now in
    let o = ascends c.args.self.strand c.args.self.intervals.starts.now c.args.self.intervals.ends.now c.args.self.ready in
    let f = c.start.ensures in
    let l = c.if-p-start.true in
    (omega arith, record { before = λ k q. absurd (omega arith); after = λ k q r. (let s = starts_ascend xs 0 0 k o (omega arith) r in omega arith) })

-- there is an interval at the index
low : (c : After-last_started) → c.last_started.result.index < length c.args.self.intervals.starts.now
low c =
    let n = count c.args.self.strand c.args.self.intervals.starts.now c.args.self.intervals.ends.now c.args.self.ready in
    let l = c.last_started.ensures.index in
    omega arith

pub overflow_add-result : goal.overflow_add-result
overflow_add-result c = let l = low (goal.at.overflow_add-result c).After-last_started in omega arith

pub returns : goal.returns
returns c = let l = low (goal.at.returns c).After-last_started in (omega arith, c.last_started.ensures.started)
