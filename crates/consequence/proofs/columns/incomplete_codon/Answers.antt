-- The two terms, and the codons as they stand.
use Rattle.consequence.proofs.columns.incomplete_codon.Goals as goal

pub returns : goal.returns
returns c = λ b. rw (c.with-terms.ensures, c.of-first.ensures)
