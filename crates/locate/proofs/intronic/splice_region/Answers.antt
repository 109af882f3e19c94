use mathlib.Core.Path.{◌∙◌, ap}
use native.Mathlib.Omega.{arith}
use lib.IntN.{ℤ}
use Rattle.locate.specs.declared.SpliceSide.TheVariants.{Donor, Acceptor}
use Rattle.locate.specs.declared.VariantLocation.TheVariants.{SpliceRegion}
use Rattle.locate.proofs.Signed.{counted, minus_fits, minus_is}
use Rattle.locate.proofs.Introns.{far_donor, far_acceptor, near_donor, near_acceptor}
use Rattle.locate.proofs.intronic.splice_region.Goals as goal

pub overflow_sub-result : goal.overflow_sub-result
overflow_sub-result c = let d = c.args.distances in let w = d.low in minus_fits d.acceptor (omega arith)

pub returns-then-donor-d : goal.returns-then-donor-d
returns-then-donor-d c = let x = c.args in let d = x.distances in let w = d.low in ap (λ (z : ℤ). SpliceRegion x.i Acceptor z) (minus_is d.acceptor (omega arith)) ∙ far_donor x.ranges x.i d.donor d.acceptor (omega arith)

pub returns-then-acceptor-a : goal.returns-then-acceptor-a
returns-then-acceptor-a c = let x = c.args in let d = x.distances in let w = d.low in ap (λ (z : ℤ). SpliceRegion x.i Donor z) (counted d.donor (omega arith)) ∙ far_acceptor x.ranges x.i d.donor d.acceptor (omega arith) (omega arith)

pub returns-then-d-a : goal.returns-then-d-a
returns-then-d-a c = let x = c.args in let d = x.distances in let w = d.low in ap (λ (z : ℤ). SpliceRegion x.i Donor z) (counted d.donor (omega arith)) ∙ near_donor x.ranges x.i d.donor d.acceptor (omega arith) (omega arith) (omega arith)

pub overflow_sub-result-2 : goal.overflow_sub-result-2
overflow_sub-result-2 c = let d = c.args.distances in let w = d.low in minus_fits d.acceptor (omega arith)

pub returns : goal.returns
returns c = let x = c.args in let d = x.distances in let w = d.low in ap (λ (z : ℤ). SpliceRegion x.i Acceptor z) (minus_is d.acceptor (omega arith)) ∙ near_acceptor x.ranges x.i d.donor d.acceptor (omega arith) (omega arith) (omega arith)
