-- The table of 768 altered letters.
use Rattle.std.specs.Prelude.{ℕ, ◌/◌, ◌%◌, List}
use Rattle.codon.specs.declared.Codon.{Codon}
use Rattle.codon.specs.Bases.{base_byte}
use Rattle.codon.specs.Table.{translate_codon, build_alt_codon}

-- the codon at a place of a code table
abbrev pub codon_numbered : ℕ → Codon
codon_numbered n = record { len = 3; first = base_byte (n / 16); second = base_byte (n / 4 % 4); third = base_byte (n % 4) }

-- its rule, build then translate: entry 12 * codon + 4 * place + base is the letter of the codon with that base at that place
unfoldable pub altered_letter : List ℕ → ℕ → ℕ
altered_letter table n = translate_codon table (build_alt_codon (codon_numbered (n / 12)) (n / 4 % 3) (base_byte (n % 4)))
