-- Every entry is the letter of its codon with its base at its place, in its genetic code: antt computes all 1,536 and compares.
use Rattle.std.proofs.Common.{refl}
use Rattle.common.proofs.Table.{entry_at}
use Rattle.codon.specs.Bases.{base_number, base_byte}
use Rattle.codon.specs.Table.{standard_table, mitochondrial_table, codon_to_index, translate_codon, build_alt_codon}
use Rattle.codon.specs.Altered.{altered_letter}
use Rattle.codon.proofs.Stored.{each_entry, both_letters}
use Rattle.codon.proofs.altered.altered_letters.Goals as goal

pub invariant_of-result : goal.invariant_of-result
unfolding altered_letter translate_codon standard_table mitochondrial_table build_alt_codon codon_to_index base_number base_byte
invariant_of-result c = record { both = both_letters _ refl (λ n h. entry_at each_entry 1536 n h 0) }
