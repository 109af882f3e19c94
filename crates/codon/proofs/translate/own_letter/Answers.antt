-- The entry of the codon's number with its own third base.
use Rattle.std.proofs.Common.{sym, ◌∙◌}
use Rattle.codon.proofs.Stored.{own_is}
use Rattle.codon.proofs.translate.own_letter.Goals as goal

pub returns-in-Some : goal.returns-in-Some
returns-in-Some c = λ table e.
    c.altered_letter.ensures table e ∙ own_is table c.args.c c.in-Some.n (sym c.requires ∙ c.in-Some.is)
