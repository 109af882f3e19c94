use Prim.Native.Nat.{◌≤◌, ◌<◌}
use mathlib.Core.Path.{◌≡◌, ◌∙◌}
use native.Mathlib.Omega.{arith}
use lib.ListN.{length, get_or}
use borrow.Author.Tests.{not-true, not-false}
use Rattle.std.specs.Prelude.{ℕ, Bool, true}
use Rattle.transcript.specs.declared.Strand.{Strand}
use Rattle.transcript.specs.declared.Intervals.{Intervals}
use Rattle.transcript.specs.Bases.{inside}
use Rattle.transcript.specs.code.Lent.{lent_exons, oriented_in}
use Rattle.transcript.proofs.Listed.{nowhere}
use Rattle.transcript.proofs.Orient.{inside_start, inside_end}
use Rattle.locate.proofs.Searching.{ascends, count, end_at_lem, end_top, high}
use Rattle.locate.proofs.Offset.{read_sum, sum_low}
use Rattle.std.proofs.Common.{ap}
use Rattle.std.specs.Prelude.{not}
use Rattle.locate.proofs.positions.utr5_length.Goals as goal

-- where there is a CDS: exon `first` holds its first base
held : (x : Intervals) (σ : Strand) (coding : Bool) (first from : ℕ) → (coding ≡ true → (first < length x.starts.now) × (inside from (get_or (oriented_in σ x) first nowhere) ≡ true)) → coding ≡ true
    → (first < length x.starts.now) × ((get_or (oriented_in σ x) first nowhere).start ≤ from) × (from < (get_or (oriented_in σ x) first nowhere).end)
held x σ coding first from h e =
    let g = get_or (oriented_in σ x) first nowhere in
    ((h e).0, inside_start from g (h e).1, inside_end from g (h e).1)

pub returns-then-not-coding : goal.returns-then-not-coding
returns-then-not-coding c = rw (not-true c.args.coding (ap not c.if-not-coding.true))

pub start-requires : goal.start-requires
start-requires c = (held c.args.exons.intervals c.args.exons.strand c.args.coding c.args.first c.args.from c.requires.first_held (not-false c.args.coding (ap not c.if-not-coding.false))).0

pub offset_at-requires : goal.offset_at-requires
offset_at-requires c =
    let h = held c.args.exons.intervals c.args.exons.strand c.args.coding c.args.first c.args.from c.requires.first_held (not-false c.args.coding (ap not c.if-not-coding.false)) in
    let f = c.requires.sums.reach in
    let l = h.0 in let s = h.1 in let t = h.2 in
    let q = c.start.ensures in
    let n = count c.args.exons.strand c.args.exons.intervals.starts.now c.args.exons.intervals.ends.now c.args.exons.ready in
    let e = end_at_lem c.args.exons.strand c.args.exons.intervals.starts.now c.args.exons.intervals.ends.now c.args.exons.ready c.args.first l in
    let u = end_top c.args.exons.strand c.args.exons.intervals.starts.now c.args.exons.intervals.ends.now c.args.exons.ready c.args.first l in (
      omega arith,
      sum_low (lent_exons c.args.exons.strand c.args.exons.intervals.starts.now c.args.exons.intervals.ends.now) c.args.sums.now (ascends c.args.exons.strand c.args.exons.intervals.starts.now c.args.exons.intervals.ends.now c.args.exons.ready) c.requires.sums
          (high c.args.exons.strand c.args.exons.intervals.starts.now c.args.exons.intervals.ends.now c.args.exons.ready) c.args.first (omega arith),
      omega arith,
      omega arith,
    )

pub returns : goal.returns
returns c =
    let h = held c.args.exons.intervals c.args.exons.strand c.args.coding c.args.first c.args.from c.requires.first_held (not-false c.args.coding (ap not c.if-not-coding.false)) in
    let l = h.0 in
    let n = count c.args.exons.strand c.args.exons.intervals.starts.now c.args.exons.intervals.ends.now c.args.exons.ready in
    rw (not-false c.args.coding (ap not c.if-not-coding.false))
    (c.offset_at.ensures ∙ rw c.start.ensures
    (read_sum (lent_exons c.args.exons.strand c.args.exons.intervals.starts.now c.args.exons.intervals.ends.now) c.args.sums.now (ascends c.args.exons.strand c.args.exons.intervals.starts.now c.args.exons.intervals.ends.now c.args.exons.ready) c.requires.sums c.args.first c.args.from (omega arith) h.1 h.2))
