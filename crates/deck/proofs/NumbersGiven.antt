-- Demand 1 of reading a deck.
-- Assumes nothing.
use Rattle.common.specs.declared.refusal.Refusal.{Refusal}
use Rattle.common.specs.Refusal.{outcome_number}
use Rattle.std.specs.Result.{is_ok}
use Prim.Native.Nat.{ℕ}
use mathlib.Core.Path.{◌≡◌, refl, sym}
use mathlib.Core.Bool.{Bool, true, false, cond, ◌||◌}
use mathlib.Core.List.{List, [], ◌∷◌}
use lib.Dec.{ltb, eqb}
use borrow.Author.Tests.{eqb-true}
use Rattle.std.specs.Prelude.{Result, Ok, Err}
use Rattle.common.specs.Lists.{all, memb}
use Rattle.common.specs.Refusal.{number, refusal}
use Rattle.common.proofs.TestParts.{on_test, and_true, true_false}
use Rattle.transcript.specs.Admission.{admission_of}
use Rattle.transcript.specs.claims.Numbers.{NumberGiven, admission_numbers}
use Rattle.transcript.proofs.NumbersGiven.{among_in, admission_given}
use Rattle.deck.specs.declared.DeckRefusal.{DeckRefusal}
use Rattle.deck.specs.Records.{record_count, next_of}
use Rattle.deck.specs.Walk.{Parts, Walk, walked, stopped, walk_deck, first_unreached, walked_as}
use Rattle.deck.specs.Deck.{transcript_of, admitted_then, admit_all, bad_length, first_bad, structure_of, parts_of, admitted, read_deck}
use Rattle.deck.specs.Numbers.{deck_number, deck_record, deck_values}
use Rattle.deck.specs.claims.Numbers.{deck_numbers, DeckGiven, DeckValued}

-- the number of an answer is one of a deck's, 0 exactly where the deck is accepted
abbrev Given : Result Unit DeckRefusal → Type 0
Given a = NumberGiven deck_numbers (deck_number a) (deck_number a) (is_ok a)

-- a refusal has its number, but for 0
has_number : ℕ → Bool
has_number n = eqb n 0 || eqb (number (refusal n)) n

numbered : (ns : List ℕ) → all has_number ns ≡ true → (n : ℕ) → memb n ns ≡ true → eqb n 0 ≡ false → number (refusal n) ≡ n
unfolding has_number
numbered [] h n m z = absurd (true_false (sym m))
numbered (x ∷ ns) h n m z =
    let both = and_true (has_number x) (all has_number ns) h in
    on_test (eqb n x)
    (λ e. let q = eqb-true n x e in let y = rw q at z in let b = rw y at both.0 in rw q (eqb-true (number (refusal x)) x b))
    (λ e. numbered ns both.1 n (rw e at m) z)

accepted : Given (Ok tt)
accepted = record { refusal_is = refl; among = refl; zero_answered = refl }

then_given : {n : ℕ} (a : Result (Unit {0}) Refusal) → NumberGiven admission_numbers n (outcome_number a) (is_ok a) → (i : ℕ) (later : Result Unit DeckRefusal) → Given later → Given (admitted_then a i later)
then_given (Ok u) g i later h = h
then_given (Err r) g i later h =
    record { refusal_is = refl; among = among_in admission_numbers deck_numbers refl (number r) g.among; zero_answered = g.zero_answered }

all_given : (d : List ℕ) (ps : List Parts) → Given (admit_all d ps)
unfolding admit_all
all_given d [] = accepted
all_given d (p ∷ ps) = then_given (admission_of (transcript_of d p)) (admission_given (transcript_of d p)) p.transcript (admit_all d ps) (all_given d ps)

-- the structure of a deck: accepted so far, or one of 22 to 25
module _ (d : List ℕ) where
  abbrev after : Result ℕ DeckRefusal → Type 0
  after s = Given (admitted d s)

  walk_given : (w : Walk) → after (walked_as d w)
  walk_given (walked ps r) = on_test (ltb (first_unreached d r) (record_count d))
      (λ e. rw e (record { refusal_is = refl; among = refl; zero_answered = refl }))
      (λ e. rw e (all_given d (parts_of (walk_deck d))))
  walk_given (stopped i) = record { refusal_is = refl; among = refl; zero_answered = refl }

  structure_given : after (structure_of d)
  unfolding structure_of
  structure_given = on_test (bad_length d)
      (λ e. rw e (record { refusal_is = refl; among = refl; zero_answered = refl }))
      (λ e. on_test (ltb (first_bad d) (record_count d))
      (λ f. rw (e, f) (record { refusal_is = refl; among = refl; zero_answered = refl }))
      (λ f. on_test (eqb (next_of d 0) 0)
      (λ g. rw (e, f, g) (record { refusal_is = refl; among = refl; zero_answered = refl }))
      (λ g. rw (e, f, g) (walk_given (walk_deck d)))))

pub deck_given : DeckGiven
unfolding read_deck
deck_given d = structure_given d

answer_valued : (a : Result Unit DeckRefusal) → deck_values a ≡ cond (is_ok a) [] (deck_record a ∷ [])
answer_valued (Ok x) = refl
answer_valued (Err e) = refl

pub deck_valued : DeckValued
deck_valued d = answer_valued (read_deck d)
