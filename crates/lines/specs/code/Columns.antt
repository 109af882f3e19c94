-- The parts of a line that the code puts one behind the other.
use Rattle.std.specs.Prelude.{ℕ, List, [], ◌∷◌, ◌++◌}
use Rattle.common.specs.Text.{bytes, decimal}
use Rattle.codon.specs.Display.{format_codons, format_amino_acids}
use Rattle.locate.specs.declared.VariantLocation.{VariantLocation}
use Rattle.locate.specs.PlaceKind.{place_name}
use Rattle.consequence.specs.Answer.{cdna_count}
use Rattle.consequence.specs.declared.ConsequenceResult.{ConsequenceResult}
use Rattle.lines.specs.Line.{newline, space, numbered, counted, term_list}

-- the line of an answered call in three parts: up to the place, the numbers, and the rest with the newline
unfoldable pub front_columns : ℕ → ℕ → VariantLocation → List ℕ
front_columns number id place = decimal number ++ (space ∷ (decimal id ++ (space ∷ (bytes "0" ++ (space ∷ (place_name place ++ (space ∷ [])))))))

unfoldable pub number_columns : ConsequenceResult → List ℕ
number_columns a =
    numbered a.exon ++ (space ∷ (numbered a.intron ++ (space ∷ (counted a.cds_position ++ (space ∷ (counted (cdna_count a.cdna_position)
    ++ (space ∷ (counted a.protein_start ++ (space ∷ [])))))))))

unfoldable pub back_columns : ConsequenceResult → List ℕ
back_columns a = format_codons a.codons ++ (space ∷ (format_amino_acids a.amino_acids ++ (space ∷ (term_list a.consequences.0 ++ (newline ∷ [])))))
