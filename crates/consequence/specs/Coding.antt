-- What a coding base's codon shows.
use Rattle.std.specs.Prelude.{ℕ, Bool, cond, not, ◌&&◌, ◌||◌, eqb, ltb, Option, Some, None}
use Rattle.common.specs.Text.{byte}
use Rattle.codon.specs.declared.AminoAcids.{AminoAcids}
use Rattle.codon.specs.Display.{letters_of}
use Rattle.terms.specs.Coding.{unknown_letter}
use Rattle.transcript.specs.Orient.{Oriented}

-- the start test: codon 1, start complete, pad 0
abbrev pub is_start_codon : Oriented → ℕ → Bool
is_start_codon t number = eqb number 1 && t.start_complete && eqb t.pad 0

-- the padded first codon of a CDS whose start is incomplete
abbrev pub is_padded_codon : Oriented → ℕ → Bool
is_padded_codon t number = eqb number 1 && ltb 0 t.pad

-- codon number and codons are shown unless the reference letter is X, and always for a padded codon
abbrev pub shows_codon : Oriented → ℕ → ℕ → Bool
shows_codon t number ref = is_padded_codon t number || not (eqb ref (byte "X"))

-- the letters are shown where both are known; a padded codon shows X
unfoldable pub shown_letters : Oriented → ℕ → ℕ → ℕ → Option AminoAcids
shown_letters t number ref alt =
    cond (not (unknown_letter ref alt)) (Some (letters_of ref alt))
    (cond (is_padded_codon t number) (Some (AminoAcids.One (byte "X"))) None)
