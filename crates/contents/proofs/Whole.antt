-- A transcript of a deck in lent lists is whole, and lent again it is the same.
-- Assumes nothing.
use Prim.Native.Nat.{ℕ}
use mathlib.Core.Path.{◌≡◌, refl, sym, ◌∙◌, ap}
use mathlib.Core.Bool.{true}
use mathlib.Core.List.{List, [], ◌∷◌, map}
use native.Mathlib.Omega.{arith}
use lib.ListN.{length, length-map}
use lib.Dec.{eqb}
use borrow.Author.Tests.{eq-eqb}
use Rattle.transcript.specs.declared.Exon.{Exon}
use Rattle.transcript.specs.declared.CdsSegment.{CdsSegment}
use Rattle.transcript.specs.Transcript.{Transcript, exons_of, segments_of, even_lists}
use Rattle.transcript.specs.Admission.{admission_of}
use Rattle.transcript.proofs.Asking.{admitted_is}
use Rattle.transcript.proofs.Admitted.{facts}
use Rattle.std.specs.Prelude.{Result, Ok, Err}
use Rattle.common.specs.declared.refusal.Refusal.{Refusal}
use Rattle.deck.specs.declared.DeckRefusal.{DeckRefusal}
use Rattle.deck.specs.Walk.{Parts, walk_deck}
use Rattle.deck.specs.Deck.{transcript_of, admitted_then, admit_all, admitted, structure_of, parts_of, read_deck, deck_transcripts}
use Rattle.contents.specs.Contents.{held_by, exon_starts, exon_ends, segment_phases, segment_exons, segment_starts, segment_ends}
use Rattle.contents.specs.claims.Lists.{Each, Fits, ListsFit, LentAgain}

-- joined again
exons_again : (xs : List Exon) → exons_of (map (λ x. x.genomic_start) xs) (map (λ x. x.genomic_end) xs) ≡ xs
unfolding exons_of
exons_again [] = refl
exons_again (x ∷ xs) = ap (λ (l : List Exon). x ∷ l) (exons_again xs)

segments_again : (gs : List CdsSegment)
    → segments_of (map (λ s. s.phase) gs) (map (λ s. s.exon_index) gs) (map (λ s. s.genomic_start) gs) (map (λ s. s.genomic_end) gs) ≡ gs
unfolding segments_of
segments_again [] = refl
segments_again (g ∷ gs) = ap (λ (l : List CdsSegment). g ∷ l) (segments_again gs)

module _ (t : Transcript) where
  same : {A : Type 0} (f g : A → ℕ) (xs : List A) → eqb (length (map f xs)) (length (map g xs)) ≡ true
  same f g xs = eq-eqb (length (map f xs)) (length (map g xs)) (length-map xs f ∙ sym (length-map xs g))

  even : even_lists (exon_starts t) (exon_ends t) (segment_phases t) (segment_exons t) (segment_starts t) (segment_ends t) ≡ true
  even = rw (
    same (λ x. x.genomic_start) (λ x. x.genomic_end) t.exons,
    same (λ s. s.genomic_start) (λ s. s.phase) t.segments,
    same (λ s. s.genomic_start) (λ s. s.exon_index) t.segments,
    same (λ s. s.genomic_start) (λ s. s.genomic_end) t.segments,
  )

pub lent_again : LentAgain
lent_again t = rw (even t, exons_again t.exons, segments_again t.segments)

-- an admitted transcript has so many
admitted_fits : (t : Transcript) (u : Unit {0}) → admission_of t ≡ Ok u → Fits t
admitted_fits t u e =
    let f = facts t (admitted_is t (admission_of t) refl u e) in
    let a = f.few in
    let b = f.few_segments in
    let x = length-map t.exons (λ x. x.genomic_start) in
    let s = length-map t.segments (λ s. s.genomic_start) in
    (omega arith, omega arith, f.few_bases)

all_fit : (d : List ℕ) (ps : List Parts) → admit_all d ps ≡ Ok tt → Each Fits (map (transcript_of d) ps)
unfolding admit_all
all_fit d [] e = tt
all_fit d (p ∷ ps) e = here (admission_of (transcript_of d p)) refl e (all_fit d ps)
  where
    here : (a : Result (Unit {0}) Refusal) → admission_of (transcript_of d p) ≡ a → admitted_then a p.transcript (admit_all d ps) ≡ Ok tt
        → (admit_all d ps ≡ Ok tt → Each Fits (map (transcript_of d) ps)) → Each Fits (map (transcript_of d) (p ∷ ps))
    here (Ok u) q h on = (admitted_fits (transcript_of d p) u q, on h)
    here (Err r) q h on = cc

pub lists_fit : ListsFit
unfolding read_deck
lists_fit d = here (structure_of d)
  where
    deck : (a : Result Unit DeckRefusal) → (a ≡ Ok tt → Each Fits (deck_transcripts d)) → Each Fits (held_by a (deck_transcripts d))
    deck (Ok x) h = h refl
    deck (Err e) h = tt

    here : (s : Result ℕ DeckRefusal) → Each Fits (held_by (admitted d s) (deck_transcripts d))
    here (Ok n) = deck (admit_all d (parts_of (walk_deck d))) (all_fit d (parts_of (walk_deck d)))
    here (Err e) = tt
