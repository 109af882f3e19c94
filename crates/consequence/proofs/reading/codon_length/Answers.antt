use Rattle.consequence.proofs.reading.codon_length.Goals as goal

pub returns-then-is_incomplete_terminal_codon : goal.returns-then-is_incomplete_terminal_codon
returns-then-is_incomplete_terminal_codon c = rw (← c.is_incomplete_terminal_codon.ensures, c.if-is_incomplete_terminal_codon.true)

pub returns : goal.returns
returns c = rw (← c.is_incomplete_terminal_codon.ensures, c.if-is_incomplete_terminal_codon.false)
