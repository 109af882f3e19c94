use Prim.Native.Nat.{◌≤◌}
use mathlib.Core.Path.{◌≡◌, ◌∙◌, sym, ap, subst}
use mathlib.Core.Bool.{true}
use native.Mathlib.Omega.{arith}
use Rattle.common.proofs.TestParts.{true_false}
use Rattle.transcript.specs.Bases.{first_start}
use Rattle.locate.specs.declared.ExonOrIntron.{ExonOrIntron}
use Rattle.locate.specs.Find.{Found, outside, find_exon_or_intron}
use Rattle.transcript.specs.code.Lent.{lent_exons}
use Rattle.locate.specs.code.Ordered.{in_order}
use Rattle.locate.specs.code.Search.{FoundAt}
use Rattle.transcript.proofs.Ascends.{inside_first}
use Rattle.locate.proofs.Coding.{is_exon, found_exon}
use Rattle.locate.proofs.Searching.{ascends, count, end_at_lem, end_top, high}
use Rattle.locate.proofs.CodedBases.{some_interval}
use Rattle.locate.proofs.Offset.{read_sum, sum_low}
use Rattle.locate.proofs.PlaceCases.{held_intron, held_outside}
use Rattle.locate.proofs.positions.cds_offset_of.Goals as goal
use Rattle.locate.proofs.positions.cds_offset_of.Goals.{In-Exon, Start}

-- the base lies past the first start
past_first : (b : Start) → first_start (lent_exons b.args.segments.now.strand b.args.segments.now.intervals.starts.now b.args.segments.now.intervals.ends.now) ≤ b.args.p
past_first b = inside_first (lent_exons b.args.segments.now.strand b.args.segments.now.intervals.starts.now b.args.segments.now.intervals.ends.now) 0 b.args.p (ascends b.args.segments.now.strand b.args.segments.now.intervals.starts.now b.args.segments.now.intervals.ends.now b.args.segments.now.ready) b.requires.held

-- an interval holds it, so nothing else was found
not_between : (b : Start) (w : Found) → find_exon_or_intron (lent_exons b.args.segments.now.strand b.args.segments.now.intervals.starts.now b.args.segments.now.intervals.ends.now) b.args.p ≡ w → is_exon w ≡ true
not_between b w e =
    ap is_exon (sym e) ∙ found_exon (lent_exons b.args.segments.now.strand b.args.segments.now.intervals.starts.now b.args.segments.now.intervals.ends.now) b.args.p (ascends b.args.segments.now.strand b.args.segments.now.intervals.starts.now b.args.segments.now.intervals.ends.now b.args.segments.now.ready) (past_first b) ∙ b.requires.held

pub find-found-requires : goal.find-found-requires
find-found-requires c =
    let g = c.args.segments.now in
    let s = some_interval (in_order g) c.args.p c.requires.held in
    let n = count g.strand g.intervals.starts.now g.intervals.ends.now g.ready in
    record { some = omega arith; ends_bound = past_first (goal.at.find-found-requires c).Start }

-- what is known of the interval that was found
at : (c : In-Exon) → FoundAt (lent_exons c.args.segments.now.strand c.args.segments.now.intervals.starts.now c.args.segments.now.intervals.ends.now) c.args.p (ExonOrIntron.Exon c.in-Exon.exon)
at c =
    subst (λ (r : ExonOrIntron). FoundAt (lent_exons c.args.segments.now.strand c.args.segments.now.intervals.starts.now c.args.segments.now.intervals.ends.now) c.args.p r) c.in-Exon.is c.find-found.ensures.1

pub offset_at-requires : goal.offset_at-requires
offset_at-requires c =
    let k = at (goal.at.offset_at-requires c).In-Exon in
    let i = k.0 in let q = k.2 in let s = k.3 in let t = k.4 in
    let f = c.requires.sums.reach in
    let n = count c.args.segments.now.strand c.args.segments.now.intervals.starts.now c.args.segments.now.intervals.ends.now c.args.segments.now.ready in
    let e = end_at_lem c.args.segments.now.strand c.args.segments.now.intervals.starts.now c.args.segments.now.intervals.ends.now c.args.segments.now.ready c.in-Exon.exon.index (omega arith) in
    let u = end_top c.args.segments.now.strand c.args.segments.now.intervals.starts.now c.args.segments.now.intervals.ends.now c.args.segments.now.ready c.in-Exon.exon.index (omega arith) in (
      omega arith,
      sum_low (lent_exons c.args.segments.now.strand c.args.segments.now.intervals.starts.now c.args.segments.now.intervals.ends.now) c.args.sums.now (ascends c.args.segments.now.strand c.args.segments.now.intervals.starts.now c.args.segments.now.intervals.ends.now c.args.segments.now.ready) c.requires.sums
          (high c.args.segments.now.strand c.args.segments.now.intervals.starts.now c.args.segments.now.intervals.ends.now c.args.segments.now.ready) c.in-Exon.exon.index (omega arith),
      s,
      omega arith,
    )

pub returns-in-Exon : goal.returns-in-Exon
returns-in-Exon c =
    let k = at (goal.at.returns-in-Exon c).In-Exon in
    let s = k.3 in let t = k.4 in let f = k.1 in let e = k.2 in
    c.offset_at.ensures ∙ rw f
    (read_sum (lent_exons c.args.segments.now.strand c.args.segments.now.intervals.starts.now c.args.segments.now.intervals.ends.now) c.args.sums.now (ascends c.args.segments.now.strand c.args.segments.now.intervals.starts.now c.args.segments.now.intervals.ends.now c.args.segments.now.ready) c.requires.sums c.in-Exon.exon.index c.args.p k.0 (omega arith) (omega arith))

pub returns-in-Intron : goal.returns-in-Intron
returns-in-Intron c =
    absurd (true_false (sym (not_between (goal.at.returns-in-Intron c).Start _ (held_intron _ _ (sym c.find-found.ensures.0 ∙ c.in-Intron.is)))))

pub returns-in-Outside : goal.returns-in-Outside
returns-in-Outside c =
    absurd (true_false (sym (not_between (goal.at.returns-in-Outside c).Start outside (held_outside _ (sym c.find-found.ensures.0 ∙ c.in-Outside.is)))))
