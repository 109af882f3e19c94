use mathlib.Core.Path.{◌∙◌, ap}
use native.Mathlib.Omega.{arith}
use lib.IntN.{ℤ}
use Rattle.locate.specs.declared.VariantLocation.TheVariants.{FrameshiftIntron}
use Rattle.locate.specs.Intronic.{deep_intron}
use Rattle.locate.proofs.Signed.{back}
use Rattle.locate.proofs.Introns.{is_short_lem, is_donor, is_acceptor, is_region_donor, is_region_acceptor, is_deep}
use Rattle.locate.proofs.intronic.classify_distances.Goals as goal

pub returns-then-gap-le13 : goal.returns-then-gap-le13
returns-then-gap-le13 c =
    let x = c.args in let d = x.distances in let w = d.low in
    ap (λ (z : ℤ). FrameshiftIntron x.i z) (back c.signed_distance.result c.signed_distance.type_inv ∙ c.signed_distance.ensures) ∙ is_short_lem x.ranges x.coding x.i x.gap d.donor d.acceptor (omega arith)

pub returns-then-d-le2 : goal.returns-then-d-le2
returns-then-d-le2 c =
    let x = c.args in let d = x.distances in let w = d.low in
    is_donor x.ranges x.coding x.i x.gap d.donor d.acceptor (omega arith) (omega arith)

pub returns-then-a-le2 : goal.returns-then-a-le2
returns-then-a-le2 c =
    let x = c.args in let d = x.distances in let w = d.low in
    is_acceptor x.ranges x.coding x.i x.gap d.donor d.acceptor (omega arith) (omega arith) (omega arith)

pub returns-then-d-donor : goal.returns-then-d-donor
returns-then-d-donor c =
    let x = c.args in let d = x.distances in let w = d.low in
    c.splice_region.ensures ∙ is_region_donor x.ranges x.coding x.i x.gap d.donor d.acceptor (omega arith) (omega arith) (omega arith) (omega arith)

pub returns-then-a-acceptor : goal.returns-then-a-acceptor
returns-then-a-acceptor c =
    let x = c.args in let d = x.distances in let w = d.low in
    c.splice_region-then-a-acceptor.ensures ∙ is_region_acceptor x.ranges x.coding x.i x.gap d.donor d.acceptor (omega arith) (omega arith) (omega arith) (omega arith) (omega arith)

pub returns : goal.returns
returns c =
    let x = c.args in let d = x.distances in let w = d.low in
    c.deep_intron.ensures ∙ ap (λ (z : ℤ). deep_intron x.coding x.i z) (back c.signed_distance-2.result c.signed_distance-2.type_inv ∙ c.signed_distance-2.ensures) ∙ is_deep x.ranges x.coding x.i x.gap d.donor d.acceptor (omega arith) (omega arith) (omega arith) (omega arith) (omega arith)
