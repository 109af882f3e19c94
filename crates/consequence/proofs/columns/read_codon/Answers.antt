-- An unfinished codon, or a whole one with its two letters.
use Rattle.consequence.proofs.columns.read_codon.Goals as goal

pub returns-then-incomplete : goal.returns-then-incomplete
returns-then-incomplete c = λ table t e hs hp hi hu.
    rw (← hi, c.if-incomplete.true, ← c.build_alt_codon-altered.ensures) (c.incomplete_codon.ensures c.args.coding)

pub returns : goal.returns
returns c = λ table t e hs hp hi hu.
    let g = c.translate_codons-both.ensures table e in
    rw (← hi, c.if-incomplete.false, ← hu, ← g.0, ← g.1, ← c.build_alt_codon-altered.ensures)
    (c.whole_codon.ensures t c.args.coding hs hp)
