-- The entry of the codon's number, a place and a base, or X for a byte that is no base.
use Rattle.std.proofs.Common.{sym, ◌∙◌, arith}
use Rattle.codon.specs.Table.{translate_codon}
use Rattle.codon.proofs.Replaced.{altered_is, altered_lost}
use Rattle.codon.proofs.altered.altered_letter_at.Goals as goal

pub returns-in-Some : goal.returns-in-Some
returns-in-Some c = λ table d e i.
    let a = c.args in
    c.altered_letter.ensures table e
    ∙ altered_is d a.b a.codon c.in-Some.base (sym c.base_number.ensures ∙ c.in-Some.is) table a.place (omega arith) i

pub returns-in-None : goal.returns-in-None
unfolding translate_codon
returns-in-None c = λ table d e i.
    let a = c.args in
    rw (altered_lost d a.place a.b (omega arith) (sym c.base_number.ensures ∙ c.in-None.is))
