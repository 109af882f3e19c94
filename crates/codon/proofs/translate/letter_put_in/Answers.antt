-- The entry read is that of the codon, or, where it is none, of the codon with A at the place.
use Rattle.std.proofs.Common.{◌≡◌, sym, ◌∙◌, ap}
use Rattle.codon.specs.Table.{codon_to_index, translate_codon, build_alt_codon}
use Rattle.codon.proofs.Replaced.{altered_none, altered_again, unaltered}
use Rattle.codon.proofs.translate.letter_put_in.Goals as goal
use Rattle.codon.proofs.translate.letter_put_in.Goals.{After-codon_to_index}

-- what the place of the codon with A put in was found to be
place_found : (c : After-codon_to_index) → codon_to_index (build_alt_codon c.args.c c.args.place 65) ≡ c.codon_to_index.result
place_found c = ap codon_to_index (sym c.build_alt_codon.ensures) ∙ sym c.codon_to_index.ensures

pub returns-then-place-gt2 : goal.returns-then-place-gt2
returns-then-place-gt2 c = λ table e.
    let a = c.args in
    rw (unaltered a.c a.place a.b c.if-place-gt2.true) (c.own_letter.ensures table e)

pub returns-in-Some-codon_to_index : goal.returns-in-Some-codon_to_index
returns-in-Some-codon_to_index c = λ table e.
    let a = c.args in
    let found = place_found (goal.at.returns-in-Some-codon_to_index c).After-codon_to_index ∙ c.in-Some-codon_to_index.is in
    c.altered_letter_at-in-Some-codon_to_index.ensures table (build_alt_codon a.c a.place 65) e found
    ∙ ap (translate_codon table) (altered_again a.c a.place 65 a.b)

pub returns-in-None : goal.returns-in-None
unfolding translate_codon
returns-in-None c = λ table e.
    let a = c.args in
    rw (altered_none a.c a.place a.b c.if-place-gt2.false (place_found (goal.at.returns-in-None c).After-codon_to_index ∙ c.in-None.is))
