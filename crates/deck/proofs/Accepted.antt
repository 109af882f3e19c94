-- An accepted deck and its table.
-- Assumes nothing.
use Prim.Native.Nat.{ℕ, ◌%◌, ◌≤◌, ◌<◌}
use mathlib.Core.Path.{◌≡◌, refl, ◌∙◌}
use mathlib.Core.Bool.{Bool, true, false, cond, not, ◌||◌}
use mathlib.Core.List.{List, []}
use native.Mathlib.Omega.{arith}
use lib.ListN.{length}
use lib.Dec.{eqb, ltb}
use borrow.Author.Tests.{eqb-true, eqb-false, ltb-false}
use Rattle.std.specs.Prelude.{Result, Ok, Err}
use Rattle.deck.specs.declared.DeckRefusal.{DeckRefusal}
use Rattle.deck.specs.declared.Table.{Table}
use Rattle.deck.specs.Refused.{refused_at}
use Rattle.deck.specs.Records.{record_count}
use Rattle.deck.specs.Walk.{walk_deck}
use Rattle.deck.specs.code.Order.{order_of}
use Rattle.deck.specs.Deck.{bad_length, structure_of, parts_of, admitted, read_deck, deck_transcripts}
use Rattle.deck.specs.code.Table.{table_of, empty_table, table_transcripts, admit_table, deck_table}
use Rattle.deck.specs.claims.Transcripts.{TableHolds}
use Rattle.deck.proofs.Grown.{walk_order}
use Rattle.deck.proofs.Distinct.{walk_few}
use Rattle.deck.proofs.Tabled.{rows_transcripts}

-- the deck has the right length
right : (a b c : Bool) → (a || not b || c) ≡ false → (a ≡ false) × (b ≡ true) × (c ≡ false)
right false true false e = (refl, refl, refl)
right false true true e = absurd (let z : ◌≡◌ {A = ℕ} 0 1 = cc in omega arith)
right false false c e = absurd (let z : ◌≡◌ {A = ℕ} 0 1 = cc in omega arith)
right true b c e = absurd (let z : ◌≡◌ {A = ℕ} 0 1 = cc in omega arith)

not_22 : (b : Bool) (s : Result ℕ DeckRefusal) {n : ℕ} → cond b (Err (refused_at 22 0)) s ≡ Ok n → b ≡ false
not_22 true s e = cc
not_22 false s e = refl

sound_size : (d : List ℕ) {n : ℕ} → structure_of d ≡ Ok n → (0 < record_count d) × (record_count d ≤ 4096)
unfolding structure_of
sound_size d e =
    let r = right (eqb (length d) 0) (eqb (length d % 16) 0) (ltb 65_536 (length d)) (not_22 (bad_length d) _ e) in
    let a = eqb-false (length d) 0 r.0 in
    let b = eqb-true (length d % 16) 0 r.1 in
    let c = ltb-false 65_536 (length d) r.2 in
    (omega arith, omega arith)

module _ (d : List ℕ) {n : ℕ} (s : structure_of d ≡ Ok n) where
  pub few_rows : length (order_of (walk_deck d)) < 4096
  few_rows = let z = sound_size d s in let w = walk_few d z.0 in omega arith

  pub sound_transcripts : table_transcripts (table_of d (order_of (walk_deck d))) ≡ deck_transcripts d
  sound_transcripts = (rows_transcripts d [] (parts_of (walk_deck d)) (order_of (walk_deck d)) (walk_order d).1 (walk_order d).0 few_rows).0

  pub sound_admission : admit_table (order_of (walk_deck d)) (table_of d (order_of (walk_deck d))) ≡ read_deck d
  unfolding read_deck
  sound_admission = rw s (rows_transcripts d [] (parts_of (walk_deck d)) (order_of (walk_deck d)) (walk_order d).1 (walk_order d).0 few_rows).1

-- an accepted deck is sound
pub sound_deck : (d : List ℕ) → read_deck d ≡ Ok tt → (n : ℕ) × (structure_of d ≡ Ok n)
unfolding read_deck
sound_deck d e = here (structure_of d) e
  where
    here : (s : Result ℕ DeckRefusal) → admitted d s ≡ Ok tt → (n : ℕ) × (s ≡ Ok n)
    here (Ok n) e = (n, refl)
    here (Err i) e = cc

pub accepted_transcripts : (d : List ℕ) → read_deck d ≡ Ok tt → table_transcripts (table_of d (order_of (walk_deck d))) ≡ deck_transcripts d
accepted_transcripts d e = sound_transcripts d (sound_deck d e).1

pub table_holds : TableHolds
unfolding deck_table
table_holds d e = let s = sound_deck d e in rw s.1 (accepted_transcripts d e)

-- a deck refused by its records or links, and one that is sound
module _ (d : List ℕ) where
  pub refused_answer : {e : DeckRefusal} → structure_of d ≡ Err e → Err e ≡ read_deck d
  unfolding read_deck
  refused_answer s = rw s

  pub refused_table : {e : DeckRefusal} {t : Table} → structure_of d ≡ Err e → t ≡ empty_table → t ≡ deck_table d
  unfolding deck_table
  refused_table s e = e ∙ rw s

  module _ {o : List ℕ} {n : ℕ} {t : Table} (s : structure_of d ≡ Ok n) (q : o ≡ order_of (walk_deck d)) (e : t ≡ table_of d o) where
    pub sound_answer : {a : Result Unit DeckRefusal} → a ≡ admit_table o t → a ≡ read_deck d
    sound_answer h = h ∙ rw (e, q) (sound_admission d s)

    pub sound_table : t ≡ deck_table d
    unfolding deck_table
    sound_table = e ∙ rw (s, q)
