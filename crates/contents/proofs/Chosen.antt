-- The transcript at a place, in lent lists.
-- Assumes nothing.
use Prim.Native.Nat.{ℕ, zero, suc, ◌-◌, ◌≤◌}
use mathlib.Core.Path.{◌≡◌, refl, sym, ◌∙◌, ap}
use mathlib.Core.List.{List, [], ◌∷◌, map, append-nil}
use native.Mathlib.Omega.{arith}
use lib.ListN.{length, take, drop, replicate, length-map, length-append, length-replicate}
use lib.Seq.{drop-nil}
use borrow.Author.Tests.{lt-ltb, le-ltb}
use Rattle.common.specs.Lists.{concat}
use Rattle.common.specs.Stored.{stored}
use Rattle.transcript.specs.Transcript.{Transcript}
use Rattle.std.specs.Prelude.{Option, Some, None, Ok, Err, Result, slice_get}
use Rattle.std.specs.Iterator.{YieldsFirst, SkipsThenYields}
use Rattle.std.proofs.lemmas.Option.{slice_get_within}
use Rattle.std.proofs.lemmas.Iterator.Consumers.{YieldsList-from_first, nth_from_yields_List}
use Rattle.deck.specs.declared.DeckRefusal.{DeckRefusal}
use Rattle.deck.specs.declared.Table.{Table}
use Rattle.deck.specs.Refused.{refused_at}
use Rattle.deck.specs.declared.rows.Rows.{Rows}
use Rattle.deck.specs.declared.transcript_rows.TranscriptRows.{TranscriptRows}
use Rattle.deck.specs.Records.{mark_of, word}
use Rattle.deck.specs.Walk.{walk_deck}
use Rattle.deck.specs.Deck.{read_deck, deck_transcripts}
use Rattle.deck.specs.code.Order.{order_of}
use Rattle.deck.specs.code.Table.{column, number_of, rows_left, transcript_rows, transcript_in, table_transcripts, table_of, deck_table}
use Rattle.deck.proofs.Accepted.{few_rows, sound_deck, table_holds}
use Rattle.contents.specs.Contents.{placed, place_content, chosen}
use Rattle.contents.specs.code.Columns.{Columns}

-- one list put
pub put_one : (t : Transcript) (list : Transcript → List ℕ) (before : List ℕ) {after numbers : List ℕ}
    → after ≡ stored before 0 numbers → numbers ≡ list t → after ≡ stored before 0 (concat (map list (t ∷ [])))
unfolding concat
put_one t list before e q = e ∙ ap (stored before 0) (q ∙ sym (append-nil (list t)))

drop_past : {A : Type 0} (k : ℕ) (xs : List A) → length xs ≤ k → drop k xs ≡ []
drop_past zero [] h = refl
drop_past zero (x ∷ xs) h = absurd (omega arith)
drop_past (suc k) [] h = refl
drop_past (suc k) (x ∷ xs) h = drop_past k xs (omega arith)

mapped_at : {A B : Type 0} (f : A → B) (xs : List A) (k : ℕ) {x : A} → slice_get xs k ≡ Some x → take 1 (drop k (map f xs)) ≡ f x ∷ []
mapped_at f [] k h = cc
mapped_at f (y ∷ xs) zero {x} h = let e : y ≡ x = cc in rw e
mapped_at f (y ∷ xs) (suc k) h = mapped_at f xs k h

slice_get_behind : {A : Type 0} (xs : List A) (k : ℕ) → slice_get xs k ≡ None → length xs ≤ k
slice_get_behind [] k h = omega arith
slice_get_behind (x ∷ xs) zero h = cc
slice_get_behind (x ∷ xs) (suc k) h = let l = slice_get_behind xs k h in omega arith

-- what the iterator over the transcripts gives for a place
pub at_place : (t : Table) (place : ℕ) {s : TranscriptRows} (u : TranscriptRows) (r : Option Rows) → rows_left s ≡ transcript_rows t
    → SkipsThenYields (YieldsFirst rows_left) s place r u → slice_get (transcript_rows t) place ≡ r
at_place t place u None e h = sym (nth_from_yields_List None u place h (YieldsList-from_first (λ x. x) rows_left (transcript_rows t) e))
at_place t place u (Some r) e h = sym (nth_from_yields_List (Some r) u place h (YieldsList-from_first (λ x. x) rows_left (transcript_rows t) e))

-- no transcript stands at a place
module _ (t : Table) (place : ℕ) (none : slice_get (transcript_rows t) place ≡ None) where
  past : length (table_transcripts t) ≤ place
  past =
      let h = length-map (transcript_rows t) (transcript_in t) in
      let b = slice_get_behind (transcript_rows t) place none in
      omega arith

  pub none_placed : Err (refused_at 25 0) ≡ placed (table_transcripts t) place
  none_placed = rw (le-ltb place (length (table_transcripts t)) past)

  pub none_there : take 1 (drop place (table_transcripts t)) ≡ []
  none_there = ap (take 1) (drop_past place (table_transcripts t) past)

-- one does, with these rows
module _ (t : Table) (place : ℕ) {r : Rows} (one : slice_get (transcript_rows t) place ≡ Some r) where
  pub one_placed : {n : ℕ} → n ≡ length (transcript_rows t) → Ok n ≡ placed (table_transcripts t) place
  one_placed {n} e =
      let h = length-map (transcript_rows t) (transcript_in t) in
      let l = slice_get_within (transcript_rows t) place r one in
      rw (lt-ltb place (length (table_transcripts t)) (omega arith), h, e)

  pub one_there : take 1 (drop place (table_transcripts t)) ≡ transcript_in t r ∷ []
  one_there = mapped_at (transcript_in t) (transcript_rows t) place one

-- a deck that is refused
module _ (d : List ℕ) (k : ℕ) {e : DeckRefusal} (h : Err e ≡ read_deck d) where
  pub refused_chosen : chosen d k ≡ []
  refused_chosen = rw (← h) (ap (take 1) (drop-nil k))

-- a deck that is accepted, with its table
module _ (d : List ℕ) (h : read_deck d ≡ Ok tt) {t : Table} (e : t ≡ deck_table d) where
  transcripts : table_transcripts t ≡ deck_transcripts d
  transcripts = ap table_transcripts e ∙ table_holds d h

  pub accepted_place : (k : ℕ) {c : Result ℕ DeckRefusal} → c ≡ placed (table_transcripts t) k → c ≡ place_content d k
  accepted_place k q = q ∙ rw (h, transcripts)

  pub accepted_chosen : (k : ℕ) → chosen d k ≡ take 1 (drop k (table_transcripts t))
  accepted_chosen k = rw (h, transcripts)

  column_length : (f : ℕ → ℕ) → length (column f (order_of (walk_deck d))) ≡ 4096
  column_length f =
      let few = few_rows d (sound_deck d h).1 in
      let m = length-map (order_of (walk_deck d)) f in
      let z = length-replicate {A = ℕ} (4096 - length (map f (order_of (walk_deck d)))) 0 in
      length-append (map f (order_of (walk_deck d))) (replicate (4096 - length (map f (order_of (walk_deck d)))) 0) ∙ omega arith

  table_is : t ≡ table_of d (order_of (walk_deck d))
  unfolding deck_table
  table_is = e ∙ rw (sound_deck d h).1

  pub accepted_columns : Columns t
  accepted_columns = record {
    of_marks = ap (λ (u : Table). length u.marks) table_is ∙ column_length (mark_of d);
    of_numbers = ap (λ (u : Table). length u.numbers) table_is ∙ column_length (number_of d);
    of_starts = ap (λ (u : Table). length u.starts) table_is ∙ column_length (λ i. word d i 4);
    of_ends = ap (λ (u : Table). length u.ends) table_is ∙ column_length (λ i. word d i 8);
  }
