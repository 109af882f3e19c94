-- How long each column can be, and the line of a call.
-- Assumes nothing.
use Rattle.std.specs.Prelude.{Err, Ok}
use Rattle.std.proofs.Common.{Option, Some, None}
use Prim.Native.Nat.{ℕ, ◌≤◌}
use mathlib.Core.Path.{refl}
use mathlib.Core.List.{List, [], ◌∷◌}
use native.Mathlib.Omega.{arith}
use lib.ListN.{length, length-append}
use Rattle.common.specs.Text.{byte, decimal}
use Rattle.common.proofs.Digits.{digits_length}
use Rattle.codon.specs.declared.Codons.{Codons}
use Rattle.codon.specs.declared.AminoAcids.{AminoAcids}
use Rattle.codon.specs.Display.{format_codon, format_codons, format_amino_acids}
use Rattle.locate.specs.declared.VariantLocation.{VariantLocation}
use Rattle.locate.specs.PlaceKind.{place_kind, place_names, place_name}
use Rattle.names.proofs.Names.{short_texts}
use Rattle.consequence.specs.declared.Numbered.{Numbered}
use Rattle.consequence.specs.Called.{Called, by_number}
use Rattle.consequence.specs.declared.ConsequenceResult.{ConsequenceResult}
use Rattle.consequence.specs.Answer.{cdna_count}
use Rattle.lines.specs.Line.{joined, numbered, counted, answer_line, refusal_line, called_line}
use Rattle.lines.specs.claims.Longest.{LongestLine, LongestNumberedLine}
use Rattle.lines.proofs.Shown.{codon_length_lem}
use Rattle.lines.proofs.TermList.{terms_length}

place_length : (p : VariantLocation) → length (place_name p) ≤ 16
unfolding place_names
place_length p = short_texts 16 place_names refl (place_kind p)

pub numbered_length : (n : Option Numbered) → length (numbered n) ≤ 41
numbered_length None = omega arith
numbered_length (Some n) =
    let a = length-append (decimal n.number) (byte "/" ∷ decimal n.total) in
    let b = digits_length 20 n.number in
    let c = digits_length 20 n.total in
    omega arith

counted_length : (n : Option ℕ) → length (counted n) ≤ 20
counted_length None = omega arith
counted_length (Some n) = digits_length 20 n

pub codons_length : (c : Option Codons) → length (format_codons c) ≤ 7
unfolding format_codons
codons_length None = omega arith
codons_length (Some c) =
    let x = length-append (format_codon c.reference c.place) (byte "/" ∷ format_codon c.altered c.place) in
    let y = codon_length_lem c.reference c.place in
    let z = codon_length_lem c.altered c.place in
    omega arith

letters_length : (a : Option AminoAcids) → length (format_amino_acids a) ≤ 3
unfolding format_amino_acids
letters_length None = omega arith
letters_length (Some (AminoAcids.One a)) = omega arith
letters_length (Some (AminoAcids.Change r a)) = omega arith

pub answer_length : (number id : ℕ) (a : ConsequenceResult) → length (answer_line number id a) ≤ 1553
unfolding answer_line joined
answer_length number id a =
    let n = digits_length 20 number in
    let i = digits_length 20 id in
    let p = place_length a.location in
    let x = numbered_length a.exon in
    let y = numbered_length a.intron in
    let s = counted_length a.cds_position in
    let c = counted_length (cdna_count a.cdna_position) in
    let k = counted_length a.protein_start in
    let o = codons_length a.codons in
    let l = letters_length a.amino_acids in
    let t = terms_length a.consequences.0 in
    simp length-append (omega arith)

pub refusal_length : (a b c : ℕ) → length (refusal_line a b c) ≤ 63
unfolding refusal_line joined
refusal_length a b c =
    let x = digits_length 20 a in
    let y = digits_length 20 b in
    let z = digits_length 20 c in
    simp length-append (omega arith)

pub longest_numbered_line : LongestNumberedLine
longest_numbered_line line id (Ok a) = answer_length line id a
longest_numbered_line line id (Err n) = let l = refusal_length line id n in omega arith

pub longest_line : LongestLine
longest_line line id c = longest_numbered_line line id (by_number c)

-- every line has its newline
joined_some : (between last : ℕ) (ls : List (List ℕ)) → 1 ≤ length (joined between last ls)
unfolding joined
joined_some between last [] = omega arith
joined_some between last (l ∷ []) = simp length-append (omega arith)
joined_some between last (l ∷ k ∷ ks) = simp length-append (omega arith)

pub line_some : (number id : ℕ) (c : Called) → 1 ≤ length (called_line number id c)
unfolding answer_line refusal_line
line_some number id (Ok a) = joined_some 32 10 _
line_some number id (Err r) = joined_some 32 10 _
