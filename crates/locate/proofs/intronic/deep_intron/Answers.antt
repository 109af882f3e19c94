use mathlib.Core.Path.{ap}
use lib.IntN.{ℤ}
use mir.Facts.{to_z-of_z}
use Rattle.locate.specs.declared.VariantLocation.TheVariants.{Intron, NonCodingIntron}
use Rattle.locate.proofs.intronic.deep_intron.Goals as goal

pub returns-then-coding : goal.returns-then-coding
returns-then-coding c = let x = c.args in rw c.if-coding.true (ap (λ (z : ℤ). Intron x.i z) (to_z-of_z c.ranges.distance))

pub returns : goal.returns
returns c = let x = c.args in rw c.if-coding.false (ap (λ (z : ℤ). NonCodingIntron x.i z) (to_z-of_z c.ranges.distance))
