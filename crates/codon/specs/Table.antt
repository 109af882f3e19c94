-- The letter of a codon. A genetic code is a table of 64 letters.
use Rattle.std.specs.Prelude.{ℕ, ◌+◌, ◌*◌, Bool, cond, ◌&&◌, Option, Some, None, List, get_or, eqb}
use Rattle.common.specs.Text.{byte, bytes}
use Rattle.codon.specs.declared.Codon.{Codon}
use Rattle.codon.specs.declared.GeneticCode.{GeneticCode}
use Rattle.codon.specs.Bases.{base_number}

-- the standard code, NCBI table 1: the letter of a codon stands at 16 * first + 4 * second + third
unfoldable pub standard_table : List ℕ
standard_table = bytes "KNKNTTTTRSRSIIMIQHQHPPPPRRRRLLLLEDEDAAAAGGGGVVVV*Y*YSSSS*CWCLFLF"

-- the vertebrate mitochondrial code, NCBI table 2, in the same order
unfoldable pub mitochondrial_table : List ℕ
mitochondrial_table = bytes "KNKNTTTT*S*SMIMIQHQHPPPPRRRRLLLLEDEDAAAAGGGGVVVV*Y*YSSSSWCWCLFLF"

-- the letters of a genetic code
abbrev pub code_table : GeneticCode → List ℕ
code_table GeneticCode.Standard = standard_table
code_table GeneticCode.VertebrateMitochondrial = mitochondrial_table

-- the place of three base numbers in the table, none where one is
abbrev pub place_of : Option ℕ → Option ℕ → Option ℕ → Option ℕ
place_of (Some x) (Some y) (Some z) = Some (x * 16 + y * 4 + z)
place_of (Some x) (Some y) None = None
place_of (Some x) None z = None
place_of None y z = None

-- the place of a codon in the table by the numbers of its bytes
abbrev pub index_by : (ℕ → Option ℕ) → Codon → Option ℕ
index_by number c = place_of (number c.first) (number c.second) (number c.third)

-- the place of a codon in the table, none where a byte is not A, C, G or T
unfoldable pub codon_to_index : Codon → Option ℕ
codon_to_index c = index_by base_number c

-- the letter at a place of the table, X where there is none
abbrev pub letter_at : List ℕ → Option ℕ → ℕ
letter_at table (Some n) = get_or table n 0
letter_at table None = byte "X"

-- the letter of a codon
unfoldable pub translate_codon : List ℕ → Codon → ℕ
translate_codon table c = letter_at table (codon_to_index c)

-- the codon is TGA
abbrev pub is_tga : Codon → Bool
is_tga c = eqb c.first (byte "T") && eqb c.second (byte "G") && eqb c.third (byte "A")

-- the letter of a reference codon: U of a TGA that holds a selenocysteine base, else the letter given
abbrev pub reference_letter : Bool → Codon → ℕ → ℕ
reference_letter selenocysteine c letter = cond (is_tga c && selenocysteine) (byte "U") letter

-- a reference TGA that holds a selenocysteine base reads U
unfoldable pub translate_reference_codon : List ℕ → Bool → Codon → ℕ
translate_reference_codon table selenocysteine c = reference_letter selenocysteine c (translate_codon table c)

-- the codon with the base at a place, 0 to 2, replaced
unfoldable pub build_alt_codon : Codon → ℕ → ℕ → Codon
build_alt_codon c place b = record {
  len = c.len;
  first = cond (eqb place 0) b c.first;
  second = cond (eqb place 1) b c.second;
  third = cond (eqb place 2) b c.third;
}
