use mathlib.Core.Path.{◌∙◌}
use Rattle.consequence.proofs.Selenocysteines.{front}
use Rattle.consequence.proofs.selenocysteine.holds_selenocysteine.Goals as goal

pub returns : goal.returns
returns c = let a = c.args in λ t e h. c.stands_in.ensures ∙ front t a.codons.now a.count a.number e h
