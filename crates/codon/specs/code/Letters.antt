-- The altered letters as they are lent.
use Rattle.std.specs.Prelude.{ℕ, ◌+◌, ◌*◌, ◌/◌, ◌%◌, ◌≤◌, ◌<◌, ◌≡◌, List, length, get_or, drop}
use Rattle.codon.specs.declared.GeneticCode.{GeneticCode}
use Rattle.codon.specs.declared.CodeLetters.{CodeLetters}
use Rattle.codon.specs.Table.{code_table}
use Rattle.codon.specs.Altered.{altered_letter}

-- the letters in the order in which they are stored: first every codon and base at place 0
abbrev pub entry_by_place : List ℕ → ℕ → ℕ
entry_by_place table n = altered_letter table (n / 4 % 64 * 12 + n / 256 * 4 + n % 4)

-- a list begins with the 768 altered letters of a table
pub record AlteredLetters (table letters : List ℕ) : Type 0 where
  pub long : 768 ≤ length letters
  pub entry : (n : ℕ) → n < 768 → get_or letters n 0 ≡ entry_by_place table n

-- the letters that a struct lends
abbrev pub LentLetters : List ℕ → CodeLetters → Type 0
LentLetters table l = AlteredLetters table l.bytes.now

-- those of the standard code come first
abbrev pub code_number : GeneticCode → ℕ
code_number GeneticCode.Standard = 0
code_number GeneticCode.VertebrateMitochondrial = 1

-- the letters of each code stand behind those of the one before
abbrev pub BothLetters : List ℕ → Type 0
BothLetters letters = (code : GeneticCode) → AlteredLetters (code_table code) (drop (768 * code_number code) letters)
