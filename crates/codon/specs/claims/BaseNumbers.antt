-- The formula gives the base numbers that stood in a table of 256 entries before it, so no letter changes.
use Rattle.std.specs.Prelude.{ℕ, ◌-◌, ◌<◌, ◌≡◌, Bool, cond, Option, Some, None, List, ◌++◌, map, get_or, eqb, ltb}
use Rattle.common.specs.Text.{byte, bytes}
use Rattle.codon.specs.declared.Codon.{Codon}
use Rattle.codon.specs.Bases.{base_number}
use Rattle.codon.specs.Table.{index_by, letter_at, reference_letter, translate_codon, translate_reference_codon, build_alt_codon}

-- the number of a base by its letter; none for every other byte
unfoldable pub number_by_letter : ℕ → Option ℕ
number_by_letter b =
    cond (eqb b (byte "A")) (Some 0)
    (cond (eqb b (byte "C")) (Some 1)
    (cond (eqb b (byte "G")) (Some 2)
    (cond (eqb b (byte "T")) (Some 3) None)))

-- the former table, a digit for each byte from 0 to 255: 4 for none
unfoldable pub former_numbers : List ℕ
former_numbers =
    map (λ digit. digit - byte "0")
    (bytes "4444444444444444444444444444444444444444444444444444444444444444"
    ++ (bytes "4041444244444444444434444444444444444444444444444444444444444444"
    ++ (bytes "4444444444444444444444444444444444444444444444444444444444444444"
    ++ bytes "4444444444444444444444444444444444444444444444444444444444444444")))

-- the number of a byte, and the letter of a codon, by the former table
abbrev pub former_number : ℕ → Option ℕ
former_number b = let n = get_or former_numbers b 0 in cond (ltb n 4) (Some n) None

abbrev pub former_letter : List ℕ → Codon → ℕ
former_letter table c = letter_at table (index_by former_number c)

pub record OfBytes (c : Codon) : Type 0 where
  pub first : c.first < 256
  pub second : c.second < 256
  pub third : c.third < 256

-- every byte has the number of its letter
abbrev pub NumbersByLetter : Type 0
NumbersByLetter = (b : ℕ) → b < 256 → base_number b ≡ number_by_letter b

-- every byte keeps its number
abbrev pub NoNumberChanges : Type 0
NoNumberChanges = (b : ℕ) → b < 256 → base_number b ≡ former_number b

-- in every genetic code a codon of bytes keeps its letter, as it is read and with a byte put in
abbrev pub NoLetterChanges : Type 0
NoLetterChanges =
    (table : List ℕ) (c : Codon) → OfBytes c →
    (selenocysteine : Bool) (place b : ℕ) → b < 256 →
    (translate_reference_codon table selenocysteine c ≡ reference_letter selenocysteine c (former_letter table c))
    × (translate_codon table (build_alt_codon c place b) ≡ former_letter table (build_alt_codon c place b))
