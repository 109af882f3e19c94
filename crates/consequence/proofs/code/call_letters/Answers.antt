-- The letters of the code of the chromosome.
use Rattle.consequence.proofs.code.call_letters.Goals as goal

pub returns : goal.returns
returns c = rw (← c.genetic_code.ensures) c.letters_of.ensures
