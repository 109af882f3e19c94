-- The columns of a base without codon.
use Rattle.consequence.proofs.exonic.exon_result.Goals as goal

pub returns : goal.returns
returns c = λ t p i h q. rw (h, q)
