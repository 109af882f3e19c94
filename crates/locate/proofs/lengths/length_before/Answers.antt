use mathlib.Core.Path.{sym, ◌∙◌, ap}
use mathlib.Core.List.{map}
use Prim.Native.Nat.{ℕ}
use native.Mathlib.Omega.{arith}
use native.Mathlib.Numerals.{add-one}
use lib.ListN.{get_or}
use Rattle.transcript.specs.Transcript.{exons_of}
use Rattle.transcript.specs.code.Lent.{exon_size}
use Rattle.transcript.proofs.Listed.{edges_at}
use Rattle.locate.proofs.BasesBefore.{lengths_low}
use Rattle.locate.proofs.PrefixSums.{cumulative_first, sums_next, sums_le}
use Rattle.locate.proofs.lengths.length_before.Invariants.{sums}
use Rattle.locate.proofs.lengths.length_before.Goals as goal

pub loop-i-init : goal.loop-i-init
loop-i-init c = sym (cumulative_first 0 (map exon_size (exons_of c.args.ordered.intervals.starts.now c.args.ordered.intervals.ends.now)))

pub overflow_sub-acc : goal.overflow_sub-acc
overflow_sub-acc c =
    let l = c.requires in let r = c.loop-i-test.true in
    let m = edges_at c.args.ordered.intervals.starts.now c.args.ordered.intervals.ends.now c.loop-i.i c.args.ordered.ready.edges c.args.ordered.ready.even (omega arith) in
    omega arith

pub overflow_cast-acc : goal.overflow_cast-acc
overflow_cast-acc c =
    let l = c.requires in let r = c.loop-i-test.true in
    let m = edges_at c.args.ordered.intervals.starts.now c.args.ordered.intervals.ends.now c.loop-i.i c.args.ordered.ready.edges c.args.ordered.ready.even (omega arith) in
    omega arith

pub overflow_add-acc : goal.overflow_add-acc
overflow_add-acc c =
    let l = c.loop-i in
    let k = c.requires in let r = c.loop-i-test.true in
    let n = sums_next 0 c.args.ordered.intervals.starts.now c.args.ordered.intervals.ends.now c.args.ordered.ready.even l.i (omega arith) in
    let m = sums_le 0 c.args.ordered.intervals.starts.now c.args.ordered.intervals.ends.now c.args.ordered.ready.even l.i (omega arith) in
    let x = c.args.ordered in let t = lengths_low x.strand x.intervals.starts.now x.intervals.ends.now x.ready in
    let e = l.invariant in
    omega arith

pub loop-i-preserved : goal.loop-i-preserved
loop-i-preserved c =
    let l = c.loop-i in
    let k = c.requires in let r = c.loop-i-test.true in
    let w = sums_next 0 c.args.ordered.intervals.starts.now c.args.ordered.intervals.ends.now c.args.ordered.ready.even l.i (omega arith) in
    let e = l.invariant in
    rw add-one (omega arith)

pub returns : goal.returns
returns c =
    let l = c.loop-i in
    l.invariant ∙ ap (λ (k : ℕ). get_or (sums c.args.ordered.intervals.starts.now c.args.ordered.intervals.ends.now) k 0) (omega arith)
