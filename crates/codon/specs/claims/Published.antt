-- NCBI's genetic code tables 1 and 2 in the four lines in which each is published: a column has a letter and the three bases of its codon.
use Prim.Native.String.{String}
use Rattle.std.specs.Prelude.{ℕ, ◌≡◌, refl, not, List, [], ◌∷◌, map, eqb}
use Rattle.common.specs.Text.{bytes}
use Rattle.common.specs.Lists.{cons_if}
use Rattle.codon.specs.declared.Codon.{Codon}
use Rattle.codon.specs.declared.GeneticCode.{GeneticCode}
use Rattle.codon.specs.Bases.{base_number}
use Rattle.codon.specs.Table.{standard_table, mitochondrial_table, code_table, codon_to_index, translate_codon}

abbrev pub published_letters : GeneticCode → String
published_letters GeneticCode.Standard = "FFLLSSSSYY**CC*WLLLLPPPPHHQQRRRRIIIMTTTTNNKKSSRRVVVVAAAADDEEGGGG"
published_letters GeneticCode.VertebrateMitochondrial = "FFLLSSSSYY**CCWWLLLLPPPPHHQQRRRRIIMMTTTTNNKKSS**VVVVAAAADDEEGGGG"

unfoldable pub published_first : String
published_first = "TTTTTTTTTTTTTTTTCCCCCCCCCCCCCCCCAAAAAAAAAAAAAAAAGGGGGGGGGGGGGGGG"

unfoldable pub published_second : String
published_second = "TTTTCCCCAAAAGGGGTTTTCCCCAAAAGGGGTTTTCCCCAAAAGGGGTTTTCCCCAAAAGGGG"

unfoldable pub published_third : String
published_third = "TCAGTCAGTCAGTCAGTCAGTCAGTCAGTCAGTCAGTCAGTCAGTCAGTCAGTCAGTCAGTCAG"

-- the codon of each column
abbrev pub columns : List ℕ → List ℕ → List ℕ → List Codon
columns (x ∷ xs) (y ∷ ys) (z ∷ zs) = record { len = 3; first = x; second = y; third = z } ∷ columns xs ys zs
columns (x ∷ xs) (y ∷ ys) [] = []
columns (x ∷ xs) [] zs = []
columns [] ys zs = []

abbrev pub published_codons : List Codon
published_codons = columns (bytes published_first) (bytes published_second) (bytes published_third)

-- each code's table has the published letter for the codon of every column
pub published : (code : GeneticCode) → map (translate_codon (code_table code)) published_codons ≡ bytes (published_letters code)
unfolding standard_table mitochondrial_table codon_to_index translate_codon base_number published_first published_second published_third
published GeneticCode.Standard = refl
published GeneticCode.VertebrateMitochondrial = refl

-- of some codons those whose letters differ between the two codes
abbrev pub differing : List Codon → List Codon
differing [] = []
differing (c ∷ cs) = cons_if (not (eqb (translate_codon standard_table c) (translate_codon mitochondrial_table c))) c (differing cs)

-- of all 64 these are TGA, ATA, AGA and AGG, and no other
pub four_differ : differing published_codons ≡ columns (bytes "TAAA") (bytes "GTGG") (bytes "AAAG")
unfolding standard_table mitochondrial_table codon_to_index translate_codon base_number published_first published_second published_third
four_differ = refl

-- stop, I, R and R in the standard code
pub four_standard : map (translate_codon standard_table) (differing published_codons) ≡ bytes "*IRR"
unfolding standard_table mitochondrial_table codon_to_index translate_codon base_number published_first published_second published_third
four_standard = refl

-- W, M and two stops in the mitochondrial one
pub four_mitochondrial : map (translate_codon mitochondrial_table) (differing published_codons) ≡ bytes "WM**"
unfolding standard_table mitochondrial_table codon_to_index translate_codon base_number published_first published_second published_third
four_mitochondrial = refl
