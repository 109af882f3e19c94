use Prim.Native.Nat.{ℕ, ◌+◌, ◌-◌}
use mathlib.Core.Path.{◌∙◌, ap}
use native.Mathlib.Omega.{arith}
use Rattle.locate.proofs.BasesBefore.{start_before, base_low, bases_are, bases_low}
use Rattle.locate.proofs.lengths.bases_before.Goals as goal

pub length_before-requires : goal.length_before-requires
length_before-requires c = let l = c.requires.held.0 in omega arith

pub overflow_sub-result : goal.overflow_sub-result
overflow_sub-result c =
    start_before c.args.exons.strand c.args.exons.intervals.starts.now c.args.exons.intervals.ends.now c.args.exons.ready c.args.k c.args.p c.start.result c.requires.held.0 c.requires.held.1 c.start.ensures

pub overflow_cast-result : goal.overflow_cast-result
overflow_cast-result c =
    let l = base_low c.args.exons.strand c.args.exons.intervals.starts.now c.args.exons.intervals.ends.now c.args.exons.ready c.args.k c.args.p c.start.result c.requires.held.0 c.requires.held.1 c.start.ensures in
    omega arith

pub overflow_add-result : goal.overflow_add-result
overflow_add-result c =
    let l = bases_low c.args.exons.strand c.args.exons.intervals.starts.now c.args.exons.intervals.ends.now c.args.exons.ready c.args.k c.args.p c.start.result c.requires.held.0 c.requires.held.1 c.start.ensures in
    let e = c.length_before.ensures in
    omega arith

pub returns : goal.returns
returns c =
    ap (λ (n : ℕ). n + (c.args.p - c.start.result)) c.length_before.ensures
    ∙ bases_are c.args.exons.strand c.args.exons.intervals.starts.now c.args.exons.intervals.ends.now c.args.exons.ready c.args.k c.args.p c.start.result c.requires.held.0 c.requires.held.1 c.start.ensures
