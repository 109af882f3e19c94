use Rattle.consequence.proofs.BesideSpills.{no_donor, one_donor}
use mathlib.Core.Path.{◌∙◌}
use Rattle.locate.proofs.Searching.{ascends, count}
use Rattle.transcript.specs.code.Lent.{lent_exons}
use native.Mathlib.Omega.{arith}
use Rattle.consequence.proofs.spill.hits_donor.Goals as goal

pub returns-then-n-lt2 : goal.returns-then-n-lt2
returns-then-n-lt2 c =
    let n = count c.args.exons.strand c.args.exons.intervals.starts.now c.args.exons.intervals.ends.now c.args.exons.ready in let m = c.requires.n_in_bounds.0 in
    no_donor (lent_exons c.args.exons.strand c.args.exons.intervals.starts.now c.args.exons.intervals.ends.now) c.args.p c.args.n (ascends c.args.exons.strand c.args.exons.intervals.starts.now c.args.exons.intervals.ends.now c.args.exons.ready) (omega arith) c.requires.n_in_bounds.1 (omega arith)

pub returns : goal.returns
returns c =
    let n = count c.args.exons.strand c.args.exons.intervals.starts.now c.args.exons.intervals.ends.now c.args.exons.ready in let m = c.requires.n_in_bounds.0 in
    let s = c.stranded.ensures in
    (rw (s.0, s.1) at c.donor_spill.ensures) ∙ one_donor (lent_exons c.args.exons.strand c.args.exons.intervals.starts.now c.args.exons.intervals.ends.now) c.args.p c.args.n (ascends c.args.exons.strand c.args.exons.intervals.starts.now c.args.exons.intervals.ends.now c.args.exons.ready) (omega arith) c.requires.n_in_bounds.1 (omega arith)
