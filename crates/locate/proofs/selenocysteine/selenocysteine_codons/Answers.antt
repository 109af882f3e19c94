use Prim.Native.Nat.{◌+◌, ◌/◌}
use mathlib.Core.Path.{◌≡◌, sym, ◌∙◌, ap}
use mathlib.Core.List.{map}
use native.Mathlib.Omega.{arith}
use lib.ListN.{get_or, length-map}
use Rattle.transcript.specs.Orient.{orient_base}
use Rattle.common.proofs.Filling.{front_step, map_at}
use Rattle.locate.specs.code.Ordered.{in_order}
use Rattle.locate.proofs.CodedBases.{base_inside}
use Rattle.locate.proofs.selenocysteine.selenocysteine_codons.Invariants.{number, numbers_of}
use Rattle.locate.proofs.selenocysteine.selenocysteine_codons.Goals as goal

pub cds_offset_of-offset-requires : goal.cds_offset_of-offset-requires
cds_offset_of-offset-requires c =
    let g = c.args.segments.now in
    record { sums = c.requires.summed; held = rw c.base_of-p.ensures (base_inside g.strand (in_order g) c.args.sums.now c.args.bases.now c.requires c.loop-i.i (omega arith)) }

pub loop-i-preserved : goal.loop-i-preserved
loop-i-preserved c =
    let l = c.loop-i in
    let f = c.requires.few_bases in
    let vs = numbers_of c.args.segments.now.strand c.args.segments.now.intervals.starts.now c.args.segments.now.intervals.ends.now c.args.sums.now c.args.bases.now in
    let n = length-map c.args.bases.now (orient_base c.args.segments.now.strand) in
    let m = length-map (map (orient_base c.args.segments.now.strand) c.args.bases.now) (number c.args.segments.now.strand c.args.segments.now.intervals.starts.now c.args.segments.now.intervals.ends.now c.args.sums.now) in
    let o = c.base_of-p.ensures in
    let e : c.cds_offset_of-offset.result.0 / 3 + 1 ≡ get_or vs l.i 0
    = rw (c.cds_offset_of-offset.ensures, o)
    (sym (map_at (number c.args.segments.now.strand c.args.segments.now.intervals.starts.now c.args.segments.now.intervals.ends.now c.args.sums.now) (map (orient_base c.args.segments.now.strand) c.args.bases.now) l.i 0 0 (omega arith)
    ∙ ap (number c.args.segments.now.strand c.args.segments.now.intervals.starts.now c.args.segments.now.intervals.ends.now c.args.sums.now) (map_at (orient_base c.args.segments.now.strand) c.args.bases.now l.i 0 0 (omega arith)))) in
    rw l.invariant (front_step vs 64 l.i (omega arith) (omega arith) (omega arith) (c.cds_offset_of-offset.result.0 / 3 + 1) e)
