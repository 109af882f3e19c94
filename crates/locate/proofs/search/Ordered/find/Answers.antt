use Prim.Native.Nat.{◌+◌, ◌<◌}
use mathlib.Core.Path.{◌∙◌}
use native.Mathlib.Omega.{arith}
use lib.ListN.{length}
use Rattle.transcript.specs.Orient.{interval}
use Rattle.locate.specs.declared.ExonOrIntron.{ExonOrIntron}
use Rattle.locate.specs.code.Features.{feature}
use Rattle.locate.proofs.Searching.{count, start_top, found_exon, found_gap, found_past}
use Rattle.locate.proofs.search.Ordered.find.Goals as goal
use Rattle.locate.proofs.search.Ordered.find.Goals.{After-last_started-last}

-- there is an exon at the index
low : (c : After-last_started-last) → c.last_started-last.result.index < length c.args.self.intervals.starts.now
low c =
    let n = count c.args.self.strand c.args.self.intervals.starts.now c.args.self.intervals.ends.now c.args.self.ready in
    let l = c.last_started-last.ensures.index in
    omega arith

pub overflow_add-n : goal.overflow_add-n
overflow_add-n c = let l = low (goal.at.overflow_add-n c).After-last_started-last in omega arith

pub end-past-requires : goal.end-past-requires
end-past-requires c = low (goal.at.end-past-requires c).After-last_started-last

pub returns-then-p-past : goal.returns-then-p-past
returns-then-p-past c =
    let x = c.args.self in
    let k = low (goal.at.returns-then-p-past c).After-last_started-last in
    let s = c.last_started-last in
    let i = s.result.index in
    let h = s.ensures.started.before i (omega arith) in
    let u = s.ensures.start_is in
    let v = c.end-past.ensures in (
      (λ j. ExonOrIntron.Exon (feature i (interval (u j) (v j))))
          ∙ found_exon x.strand x.intervals.starts.now x.intervals.ends.now x.ready c.args.p (i + 1) (omega arith) s.ensures.started i (omega arith) (omega arith),
      (s.ensures.index, u, v, omega arith, omega arith),
    )

pub returns-then-n-self : goal.returns-then-n-self
returns-then-n-self c =
    let x = c.args.self in
    let k = low (goal.at.returns-then-n-self c).After-last_started-last in
    let s = c.last_started-last in
    let i = s.result.index in
    let n = count x.strand x.intervals.starts.now x.intervals.ends.now x.ready in
    let h = s.ensures.started.after (i + 1) (omega arith) (omega arith) in
    let w = x.ready.few in
    let u = start_top x.strand x.intervals.starts.now x.intervals.ends.now x.ready (i + 1) (omega arith) in
    let v = c.end-past.ensures in
    let f = c.start.ensures in (
      (λ j. ExonOrIntron.Intron (feature i (interval (v j) (f j))))
          ∙ found_gap x.strand x.intervals.starts.now x.intervals.ends.now x.ready c.args.p (i + 1) (omega arith) s.ensures.started i (omega arith) (omega arith) (omega arith),
      (omega arith, omega arith, omega arith, omega arith),
    )

pub returns : goal.returns
returns c =
    let x = c.args.self in
    let k = low (goal.at.returns c).After-last_started-last in
    let s = c.last_started-last in
    let i = s.result.index in
    let v = c.end-past.ensures in
    (found_past x.strand x.intervals.starts.now x.intervals.ends.now x.ready c.args.p (i + 1) (omega arith) s.ensures.started i (omega arith) (omega arith) (omega arith), tt)
