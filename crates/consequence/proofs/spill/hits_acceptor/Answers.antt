use Rattle.consequence.proofs.BesideSpills.{no_acceptor, one_acceptor}
use mathlib.Core.Path.{◌∙◌}
use Rattle.locate.proofs.Searching.{ascends, count}
use Rattle.transcript.specs.code.Lent.{lent_exons}
use native.Mathlib.Omega.{arith}
use Rattle.consequence.proofs.spill.hits_acceptor.Goals as goal

pub returns-then-n-eq0 : goal.returns-then-n-eq0
returns-then-n-eq0 c =
    let n = count c.args.exons.strand c.args.exons.intervals.starts.now c.args.exons.intervals.ends.now c.args.exons.ready in let m = c.requires.n_in_bounds.0 in
    no_acceptor (lent_exons c.args.exons.strand c.args.exons.intervals.starts.now c.args.exons.intervals.ends.now) c.args.p c.args.n (ascends c.args.exons.strand c.args.exons.intervals.starts.now c.args.exons.intervals.ends.now c.args.exons.ready) (omega arith) c.requires.n_in_bounds.1 (λ l k. absurd (omega arith))

pub returns-then-n-exons : goal.returns-then-n-exons
returns-then-n-exons c =
    let n = count c.args.exons.strand c.args.exons.intervals.starts.now c.args.exons.intervals.ends.now c.args.exons.ready in let m = c.requires.n_in_bounds.0 in
    no_acceptor (lent_exons c.args.exons.strand c.args.exons.intervals.starts.now c.args.exons.intervals.ends.now) c.args.p c.args.n (ascends c.args.exons.strand c.args.exons.intervals.starts.now c.args.exons.intervals.ends.now c.args.exons.ready) (omega arith) c.requires.n_in_bounds.1 (λ l k. absurd (omega arith))

pub returns : goal.returns
returns c =
    let n = count c.args.exons.strand c.args.exons.intervals.starts.now c.args.exons.intervals.ends.now c.args.exons.ready in let m = c.requires.n_in_bounds.0 in
    let s = c.stranded.ensures in
    (rw (s.0, s.1) at c.acceptor_spill.ensures) ∙ one_acceptor (lent_exons c.args.exons.strand c.args.exons.intervals.starts.now c.args.exons.intervals.ends.now) c.args.p c.args.n (ascends c.args.exons.strand c.args.exons.intervals.starts.now c.args.exons.intervals.ends.now c.args.exons.ready) (omega arith) c.requires.n_in_bounds.1 (omega arith) (omega arith)
