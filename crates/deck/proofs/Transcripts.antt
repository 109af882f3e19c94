-- An accepted deck has a transcript.
-- Assumes nothing.
use Prim.Native.Nat.{ℕ, zero, suc}
use mathlib.Core.Path.{◌≡◌, refl, sym, ◌∙◌, ap}
use mathlib.Core.Bool.{Bool, true, false, cond}
use mathlib.Core.List.{List, [], ◌∷◌, map}
use lib.ListN.{get_or}
use lib.Dec.{eqb, ltb}
use borrow.Author.Tests.{eqb-false}
use Rattle.common.proofs.TestParts.{on_test}
use Rattle.std.specs.Prelude.{Result, Ok, Err}
use Rattle.deck.specs.declared.DeckRefusal.{DeckRefusal}
use Rattle.deck.specs.Refused.{refused_at}
use Rattle.deck.specs.Records.{record_count, next_of}
use Rattle.deck.specs.Walk.{bad_link, Step, read, failed, walk_transcript, Walk, walked, stopped, add_parts, onward, transcripts_from, walk_deck, walked_as}
use Rattle.deck.specs.code.Order.{order_of}
use Rattle.deck.specs.Deck.{bad_length, first_bad, structure_of, parts_of, transcript_of, read_deck}
use Rattle.deck.specs.code.Table.{table_of, is_kind, transcript_in}
use Rattle.deck.proofs.RowOrder.{rows_none}
use Rattle.deck.proofs.Accepted.{sound_deck, accepted_transcripts}

-- a walk that reads a transcript, or stops
abbrev Reads : Walk → Type 0
Reads (walked [] q) = ⊥
Reads (walked (p ∷ ps) q) = Unit {0}
Reads (stopped i) = Unit {0}

onward_reads : (s : Step) (go : List ℕ → Walk) → Reads (onward s go)
onward_reads (read p q) go = added (go q)
  where
    added : (w : Walk) → Reads (add_parts p w)
    added (walked ps q) = tt
    added (stopped i) = tt
onward_reads (failed i) go = tt

walk_reads : (f : ℕ) (d : List ℕ) (from to : ℕ) (r : List ℕ) → eqb to 0 ≡ false → Reads (transcripts_from f d from to r)
unfolding transcripts_from
walk_reads zero d from to r z = tt
walk_reads (suc f) d from to r z = rw z (here (bad_link d 1 to r))
  where
    here : (b : Bool) → Reads (cond b (stopped from) (onward (walk_transcript d to (to ∷ r)) λ q. transcripts_from f d to (next_of d to) q))
    here true = tt
    here false = onward_reads (walk_transcript d to (to ∷ r)) (λ q. transcripts_from f d to (next_of d to) q)

-- what is refused before the walk is not sound
linked : (a b c : Bool) (x y z w : Result ℕ DeckRefusal) {n : ℕ} → (x ≡ Ok n → ⊥) → (y ≡ Ok n → ⊥) → (z ≡ Ok n → ⊥)
    → cond a x (cond b y (cond c z w)) ≡ Ok n → (c ≡ false) × (w ≡ Ok n)
linked true b c x y z w p q r e = absurd (p e)
linked false true c x y z w p q r e = absurd (q e)
linked false false true x y z w p q r e = absurd (r e)
linked false false false x y z w p q r e = (refl, e)

some_parts : (d : List ℕ) (w : Walk) {n : ℕ} → Reads w → walked_as d w ≡ Ok n → parts_of w ≡ [] → ⊥
some_parts d (walked [] q) r e n = r
some_parts d (walked (p ∷ ps) q) r e n = cc
some_parts d (stopped i) r e n = cc

module _ (d : List ℕ) {n : ℕ} (s : structure_of d ≡ Ok n) where
  sound_parts : parts_of (walk_deck d) ≡ [] → ⊥
  unfolding structure_of walk_deck
  sound_parts =
      let l = linked (bad_length d) (ltb (first_bad d) (record_count d)) (eqb (next_of d 0) 0) (Err (refused_at 22 0)) (Err (refused_at 23 (first_bad d)))
      (Err (refused_at 25 0)) (walked_as d (walk_deck d)) (λ e. cc) (λ e. cc) (λ e. cc) s in
      some_parts d (walk_deck d) (walk_reads (record_count d) d 0 (next_of d 0) (0 ∷ []) l.0) l.1

map_empty : {A B : Type 0} (f : A → B) (xs : List A) → [] ≡ map f xs → xs ≡ []
map_empty f [] e = refl
map_empty f (x ∷ xs) e = cc

pub accepted_first : (d : List ℕ) → read_deck d ≡ Ok tt → is_kind (table_of d (order_of (walk_deck d))).kinds 1 0 ≡ true
accepted_first d e =
    on_test (eqb (get_or (table_of d (order_of (walk_deck d))).kinds 0 0) 1)
    (λ h. rw h)
    (λ h. absurd (sound_parts d (sound_deck d e).1 (map_empty (transcript_of d) (parts_of (walk_deck d))
    (sym (ap (map (transcript_in (table_of d (order_of (walk_deck d))))) (rows_none (table_of d (order_of (walk_deck d))).kinds 0 (λ l k. eqb-false (get_or (table_of d (order_of (walk_deck d))).kinds 0 0) 1 h k)))
    ∙ accepted_transcripts d e))))
