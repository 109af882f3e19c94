use mathlib.Core.Path.{◌∙◌, ap}
use Prim.Native.Nat.{◌+◌, ◌-◌}
use native.Mathlib.Omega.{arith}
use lib.IntN.{ℤ}
use Rattle.locate.specs.declared.VariantLocation.TheVariants.{FivePrimeUtr, ThreePrimeUtr}
use Rattle.transcript.specs.Orient.{interval}
use Rattle.locate.proofs.Signed.{counted, minus_fits, minus_is}
use Rattle.locate.proofs.Exons.{is_five, is_three, is_cds}
use Rattle.locate.proofs.exonic.exonic_place.Goals as goal

pub overflow_sub-left : goal.overflow_sub-left
overflow_sub-left c = c.requires.five c.if-p-cds_start.true

pub overflow_sub-result : goal.overflow_sub-result
overflow_sub-result c = let u = c.requires.utr5_low in minus_fits (c.args.counts.utr5 - c.args.counts.before) (omega arith)

pub returns-then-p-cds_start : goal.returns-then-p-cds_start
returns-then-p-cds_start c =
    let x = c.args in
    let u = c.requires.utr5_low in
    ap (λ (z : ℤ). FivePrimeUtr x.i z x.mark) (minus_is (x.counts.utr5 - x.counts.before) (omega arith))
    ∙ is_five x.counts (interval x.cds_start x.cds_end) x.p x.i x.mark c.if-p-cds_start.true

pub overflow_sub-past : goal.overflow_sub-past
overflow_sub-past c = c.requires.three c.if-cds_end-p.true

pub returns-then-cds_end-p : goal.returns-then-cds_end-p
returns-then-cds_end-p c =
    let x = c.args in
    let u = c.requires.before_low in
    ap (λ (z : ℤ). ThreePrimeUtr x.i z x.mark) (counted (x.counts.before + 1 - x.counts.coding_end) (omega arith))
    ∙ is_three x.counts (interval x.cds_start x.cds_end) x.p x.i x.mark c.if-p-cds_start.false c.if-cds_end-p.true

pub overflow_sub-offset : goal.overflow_sub-offset
overflow_sub-offset c = c.requires.cds_from c.if-p-cds_start.false

pub overflow_sub-segment : goal.overflow_sub-segment
overflow_sub-segment c = c.requires.from_first c.if-p-cds_start.false c.if-cds_end-p.false

pub returns : goal.returns
returns c =
    let x = c.args in
    is_cds x.counts (interval x.cds_start x.cds_end) x.p x.i x.mark c.if-p-cds_start.false c.if-cds_end-p.false
