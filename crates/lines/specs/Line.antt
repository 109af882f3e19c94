-- The printed lines.
use Rattle.std.specs.Prelude.{ℕ, Bool, cond, List, [], ◌∷◌, ◌++◌, map, length, drop, leb, Option, Some, None, Result, Ok, Err}
use Rattle.common.specs.Text.{byte, bytes, decimal}
use Rattle.common.specs.declared.refusal.Refusal.{Refusal}
use Rattle.common.specs.declared.refusal.Refusal.TheVariants.{LineLength}
use Rattle.codon.specs.Display.{format_codons, format_amino_acids}
use Rattle.locate.specs.PlaceKind.{place_name}
use Rattle.consequence.specs.declared.Numbered.{Numbered}
use Rattle.consequence.specs.Answer.{cdna_count}
use Rattle.consequence.specs.declared.ConsequenceResult.{ConsequenceResult}
use Rattle.consequence.specs.Called.{Called, by_number}
use Rattle.names.specs.Names.{term_name}
use Rattle.terms.specs.Terms.{ranks}

abbrev pub newline : ℕ
newline = 10

abbrev pub space : ℕ
space = 32

-- the pieces with a byte between each two and a last byte behind them
unfoldable pub joined : ℕ → ℕ → List (List ℕ) → List ℕ
joined between last [] = last ∷ []
joined between last (l ∷ []) = l ++ (last ∷ [])
joined between last (l ∷ k ∷ ks) = l ++ (between ∷ joined between last (k ∷ ks))

abbrev pub line_of : List (List ℕ) → List ℕ
line_of fs = joined space newline fs

-- k/n, `-` for absent
abbrev pub numbered : Option Numbered → List ℕ
numbered None = bytes "-"
numbered (Some n) = decimal n.number ++ (byte "/" ∷ decimal n.total)

abbrev pub counted : Option ℕ → List ℕ
counted None = bytes "-"
counted (Some n) = decimal n

-- names with commas between, `-` for none
unfoldable pub commas : List (List ℕ) → List ℕ
commas [] = bytes "-"
commas (l ∷ []) = l
commas (l ∷ k ∷ ks) = l ++ (byte "," ∷ commas (k ∷ ks))

-- the names of a set's terms, from the lowest bit
abbrev pub term_list : ℕ → List ℕ
term_list s = commas (map term_name (ranks s))

-- an answered call: line number, id, 0, place, exon, intron, CDS position, cDNA position, codon number, codons, letters, terms
unfoldable pub answer_line : ℕ → ℕ → ConsequenceResult → List ℕ
answer_line number id a = line_of (
    decimal number ∷ decimal id ∷ bytes "0" ∷ place_name a.location ∷ numbered a.exon ∷ numbered a.intron
    ∷ counted a.cds_position ∷ counted (cdna_count a.cdna_position) ∷ counted a.protein_start
    ∷ format_codons a.codons ∷ format_amino_acids a.amino_acids ∷ term_list a.consequences.0 ∷ [])

-- a refusal: three numbers
unfoldable pub refusal_line : ℕ → ℕ → ℕ → List ℕ
refusal_line a b c = line_of (decimal a ∷ decimal b ∷ decimal c ∷ [])

-- the line of an answer, or of a refusal of any number
abbrev pub numbered_line : ℕ → ℕ → Result ConsequenceResult ℕ → List ℕ
numbered_line line id (Ok a) = answer_line line id a
numbered_line line id (Err n) = refusal_line line id n

abbrev pub called_line : ℕ → ℕ → Called → List ℕ
called_line line id called = numbered_line line id (by_number called)

-- a line, newline included, longer than the lent buffer is refused, and only then
abbrev pub fits : List ℕ → List ℕ → Bool
fits buffer line = leb (length line) (length buffer)

abbrev pub write_answer : List ℕ → List ℕ → Result ℕ Refusal
write_answer buffer line = cond (fits buffer line) (Ok (length line)) (Err LineLength)

-- the lent bytes afterwards: the line and what stood behind it; a refusal leaves them unchanged
abbrev pub written_to : List ℕ → List ℕ → List ℕ
written_to buffer line = cond (fits buffer line) (line ++ drop (length line) buffer) buffer
