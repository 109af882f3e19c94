-- The lists of a transcript are the parts of the columns that it comes from.
-- Assumes nothing.
use Prim.Native.Nat.{ℕ, ◌+◌}
use mathlib.Core.Path.{◌≡◌, refl, sym, ◌∙◌, ap}
use mathlib.Core.Bool.{true}
use mathlib.Core.List.{List, [], ◌∷◌, map}
use native.Mathlib.Omega.{arith}
use lib.ListN.{length, length-map}
use borrow.Author.Tests.{eq-eqb}
use Rattle.transcript.specs.Transcript.{Transcript, exons_of, segments_of, even_lists}
use Rattle.deck.specs.declared.Table.{Table}
use Rattle.deck.specs.declared.rows.Rows.{Rows}
use Rattle.deck.specs.code.Table.{part, model_in, transcript_in}
use Rattle.deck.proofs.PartEnds.{part_length}
use Rattle.contents.specs.code.Columns.{Columns}
use Rattle.contents.specs.Contents.{scalar_words, scalars_of, exon_starts, exon_ends, segment_phases, segment_exons, segment_starts, segment_ends, bases_of}

-- lists lent apart, joined and taken apart again
starts_of : (ss es : List ℕ) → length ss ≡ length es → map (λ x. x.genomic_start) (exons_of ss es) ≡ ss
unfolding exons_of
starts_of [] es e = refl
starts_of (s ∷ ss) [] e = absurd (omega arith)
starts_of (s ∷ ss) (x ∷ es) e = ap (λ (l : List ℕ). s ∷ l) (starts_of ss es (omega arith))

ends_of : (ss es : List ℕ) → length ss ≡ length es → map (λ x. x.genomic_end) (exons_of ss es) ≡ es
unfolding exons_of
ends_of [] [] e = refl
ends_of [] (x ∷ es) e = absurd (omega arith)
ends_of (s ∷ ss) [] e = absurd (omega arith)
ends_of (s ∷ ss) (x ∷ es) e = ap (λ (l : List ℕ). x ∷ l) (ends_of ss es (omega arith))

segments_of_lem : (ps is ss es : List ℕ) → length ss ≡ length ps → length ss ≡ length is → length ss ≡ length es
    → (map (λ s. s.phase) (segments_of ps is ss es) ≡ ps) × (map (λ s. s.exon_index) (segments_of ps is ss es) ≡ is)
    × (map (λ s. s.genomic_start) (segments_of ps is ss es) ≡ ss) × (map (λ s. s.genomic_end) (segments_of ps is ss es) ≡ es)
unfolding segments_of
segments_of_lem [] [] [] [] a b c = (refl, refl, refl, refl)
segments_of_lem [] [] [] (e ∷ es) a b c = absurd (omega arith)
segments_of_lem [] [] (s ∷ ss) es a b c = absurd (omega arith)
segments_of_lem [] (i ∷ is) [] es a b c = absurd (omega arith)
segments_of_lem [] (i ∷ is) (s ∷ ss) es a b c = absurd (omega arith)
segments_of_lem (p ∷ ps) [] [] es a b c = absurd (omega arith)
segments_of_lem (p ∷ ps) [] (s ∷ ss) es a b c = absurd (omega arith)
segments_of_lem (p ∷ ps) (i ∷ is) [] es a b c = absurd (omega arith)
segments_of_lem (p ∷ ps) (i ∷ is) (s ∷ ss) [] a b c = absurd (omega arith)
segments_of_lem (p ∷ ps) (i ∷ is) (s ∷ ss) (e ∷ es) a b c =
    let r = segments_of_lem ps is ss es (omega arith) (omega arith) (omega arith) in
    (ap (λ (l : List ℕ). p ∷ l) r.0, ap (λ (l : List ℕ). i ∷ l) r.1, ap (λ (l : List ℕ). s ∷ l) r.2, ap (λ (l : List ℕ). e ∷ l) r.3)

module _ {t : Table} (r : Rows) (c : Columns t) where
  exon_lengths : length (part (r.row + 1) r.exons t.starts) ≡ length (part (r.row + 1) r.exons t.ends)
  exon_lengths = part_length t.starts c.of_starts (r.row + 1) r.exons ∙ sym (part_length t.ends c.of_ends (r.row + 1) r.exons)

  same_length : (l : List ℕ) → length l ≡ 4096 → length (part r.bounds r.segments t.starts) ≡ length (part r.bounds r.segments l)
  same_length l e = part_length t.starts c.of_starts r.bounds r.segments ∙ sym (part_length l e r.bounds r.segments)

  even : even_lists (part (r.row + 1) r.exons t.starts) (part (r.row + 1) r.exons t.ends) (part r.bounds r.segments t.marks) (part r.bounds r.segments t.numbers)
      (part r.bounds r.segments t.starts) (part r.bounds r.segments t.ends) ≡ true
  even = rw (
    eq-eqb (length (part (r.row + 1) r.exons t.starts)) (length (part (r.row + 1) r.exons t.ends)) exon_lengths,
    eq-eqb (length (part r.bounds r.segments t.starts)) (length (part r.bounds r.segments t.marks)) (same_length t.marks c.of_marks),
    eq-eqb (length (part r.bounds r.segments t.starts)) (length (part r.bounds r.segments t.numbers)) (same_length t.numbers c.of_numbers),
    eq-eqb (length (part r.bounds r.segments t.starts)) (length (part r.bounds r.segments t.ends)) (same_length t.ends c.of_ends),
  )

module _ (t : Table) (r : Rows) (c : Columns t) where
  abbrev here : Transcript
  here = transcript_in t r

  pub exon_starts_in : part (r.row + 1) r.exons t.starts ≡ exon_starts here
  unfolding transcript_in
  exon_starts_in = sym (rw (even r c) (starts_of (part (r.row + 1) r.exons t.starts) (part (r.row + 1) r.exons t.ends) (exon_lengths r c)))

  pub exon_ends_in : part (r.row + 1) r.exons t.ends ≡ exon_ends here
  unfolding transcript_in
  exon_ends_in = sym (rw (even r c) (ends_of (part (r.row + 1) r.exons t.starts) (part (r.row + 1) r.exons t.ends) (exon_lengths r c)))

  pub segments_in : (part r.bounds r.segments t.marks ≡ segment_phases here) × (part r.bounds r.segments t.numbers ≡ segment_exons here)
      × (part r.bounds r.segments t.starts ≡ segment_starts here) × (part r.bounds r.segments t.ends ≡ segment_ends here)
  unfolding transcript_in
  segments_in =
      let s = segments_of_lem (part r.bounds r.segments t.marks) (part r.bounds r.segments t.numbers) (part r.bounds r.segments t.starts) (part r.bounds r.segments t.ends)
      (same_length r c t.marks c.of_marks) (same_length r c t.numbers c.of_numbers) (same_length r c t.ends c.of_ends) in
      (sym s.0, sym s.1, sym s.2, sym s.3)

  pub scalars_in : scalar_words (model_in t r) (length (part r.bounds r.segments t.starts)) (length (part r.segments r.bases t.starts)) ≡ scalars_of here
  unfolding transcript_in
  scalars_in =
      let n = ap length segments_in.2 ∙ length-map here.segments (λ s. s.genomic_start) in
      rw n

  pub bases_in_lem : part r.segments r.bases t.starts ≡ bases_of here
  unfolding transcript_in
  bases_in_lem = refl
