use Rattle.std.proofs.Common.{◌≡◌, length, refl, arith}
use Rattle.transcript.specs.declared.Exon.{Exon}
use Rattle.records.proofs.Tables.{copied_step, all_copied}
use Rattle.records.proofs.table.table_of.Goals as goal

none : Exon
none = record { genomic_start = 0; genomic_end = 0 }

pub loop-i-init : goal.loop-i-init
loop-i-init c = record { within = omega arith; starting = refl; ending = refl }

pub loop-i-preserved : goal.loop-i-preserved
unfolding none
loop-i-preserved c =
    let few = c.if-count-le512.true in
    let more = c.loop-i-test.true in
    record {
      within = omega arith;
      starting = rw c.loop-i.invariant.starting (copied_step (λ (x : Exon). x.genomic_start) none c.args.exons.now few c.loop-i.i more);
      ending = rw c.loop-i.invariant.ending (copied_step (λ (x : Exon). x.genomic_end) none c.args.exons.now few c.loop-i.i more);
    }

pub returns-after-loop-i : goal.returns-after-loop-i
returns-after-loop-i c =
    let v = c.loop-i.invariant in
    let done : c.loop-i.i ≡ length c.args.exons.now = omega arith in
    rw (v.starting, v.ending, done) (all_copied none c.args.exons.now c.if-count-le512.true)
