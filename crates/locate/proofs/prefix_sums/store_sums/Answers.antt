use Rattle.locate.proofs.PrefixSums.{cumulative_first, sums_count, sums_next, sums_le}
use Rattle.transcript.proofs.Listed.{edges_at}
use Rattle.common.proofs.Stored.{stored_more}
use Rattle.locate.specs.Index.{cumulative}
use Rattle.common.specs.Stored.{stored}
use native.Mathlib.Numerals.{add-one}
use lib.ListN.{length, take, length-set}
use lib.Seq.{take_all, length-sets}
use native.Mathlib.Omega.{arith}
use mathlib.Core.Path.{◌≡◌, refl, sym, ◌∙◌, ap}
use Prim.Native.Nat.{◌+◌}
use Rattle.locate.proofs.prefix_sums.store_sums.Invariants.{sizes}
use Rattle.locate.proofs.prefix_sums.store_sums.Goals as goal
use Rattle.locate.proofs.prefix_sums.store_sums.Goals.{After-loop-i, At-loop-i}

-- the array keeps its length
kept : (c : At-loop-i) → length c.loop-i.sums ≡ length c.args.sums.now
kept c = ap length c.loop-i.invariant.0 ∙ length-sets c.args.sums.now c.args.at (take c.loop-i.i (cumulative c.args.first (sizes c.args.intervals.starts.now c.args.intervals.ends.now)))

pub loop-i-init : goal.loop-i-init
loop-i-init c = (refl, sym (cumulative_first c.args.first (sizes c.args.intervals.starts.now c.args.intervals.ends.now)))

pub bounds-sums-at : goal.bounds-sums-at
bounds-sums-at c = let e = kept (goal.at.bounds-sums-at c).At-loop-i in let r = c.requires.even in omega arith

pub overflow_sub-acc : goal.overflow_sub-acc
overflow_sub-acc c =
    let m = edges_at c.args.intervals.starts.now c.args.intervals.ends.now c.loop-i.i c.requires.good_edges c.requires.even.0 (omega arith) in
    omega arith

pub overflow_cast-acc : goal.overflow_cast-acc
overflow_cast-acc c =
    let m = edges_at c.args.intervals.starts.now c.args.intervals.ends.now c.loop-i.i c.requires.good_edges c.requires.even.0 (omega arith) in
    omega arith

pub overflow_add-acc : goal.overflow_add-acc
overflow_add-acc c =
    let l = c.loop-i in
    let n = sums_next c.args.first c.args.intervals.starts.now c.args.intervals.ends.now c.requires.even.0 l.i (omega arith) in
    let m = sums_le c.args.first c.args.intervals.starts.now c.args.intervals.ends.now c.requires.even.0 l.i (omega arith) in
    let t = c.requires.low in
    let e = l.invariant.1 in
    omega arith

pub loop-i-preserved : goal.loop-i-preserved
loop-i-preserved c =
    let l = c.loop-i in
    let vs = cumulative c.args.first (sizes c.args.intervals.starts.now c.args.intervals.ends.now) in
    let n = sums_count c.args.first c.args.intervals.starts.now c.args.intervals.ends.now c.requires.even.0 in
    let w = sums_next c.args.first c.args.intervals.starts.now c.args.intervals.ends.now c.requires.even.0 l.i (omega arith) in
    let e = l.invariant.1 in (
      rw l.invariant.0 (stored_more c.args.sums.now c.args.at vs l.i l.acc (omega arith) e),
      rw add-one (omega arith),
    )

pub bounds-sums-at-2 : goal.bounds-sums-at-2
bounds-sums-at-2 c = let e = kept (goal.at.bounds-sums-at-2 c).At-loop-i in let r = c.requires.even in omega arith

-- behind the loop its index is the count
ended : (c : After-loop-i) → c.loop-i.i ≡ length c.args.intervals.starts.now
ended c = let r = c.loop-i-test.false in omega arith

pub shape_of-sums : goal.shape_of-sums
shape_of-sums c =
    let e = kept (goal.at.shape_of-sums c).At-loop-i in
    length-set c.loop-i.sums (c.args.at + length c.args.intervals.starts.now) c.loop-i.acc ∙ e

pub returns : goal.returns
returns c =
    let l = c.loop-i in
    let vs = cumulative c.args.first (sizes c.args.intervals.starts.now c.args.intervals.ends.now) in
    let n = sums_count c.args.first c.args.intervals.starts.now c.args.intervals.ends.now c.requires.even.0 in
    let q = ended (goal.at.returns c).After-loop-i in
    rw (sym q, l.invariant.0) (stored_more c.args.sums.now c.args.at vs l.i l.acc (omega arith) l.invariant.1)
    ∙ ap (stored c.args.sums.now c.args.at) (take_all (l.i + 1) vs (omega arith))
