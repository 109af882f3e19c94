-- Demand 1 of asking what a deck contains.
-- Assumes nothing.
use Prim.Native.Nat.{ℕ}
use mathlib.Core.Path.{refl}
use mathlib.Core.Bool.{Bool, true, false, cond}
use lib.ListN.{length}
use lib.Dec.{ltb}
use Rattle.std.specs.Result.{is_ok}
use Rattle.common.specs.Refuse.{or_else}
use Rattle.transcript.specs.claims.Numbers.{NumberGiven}
use Rattle.std.specs.Prelude.{Result, Ok, Err}
use Rattle.common.specs.Refusal.{refusal}
use Rattle.deck.specs.declared.DeckRefusal.{DeckRefusal}
use Rattle.deck.specs.Refused.{refused_at}
use Rattle.deck.specs.Deck.{read_deck, deck_transcripts}
use Rattle.deck.specs.Numbers.{deck_number}
use Rattle.deck.specs.claims.Numbers.{deck_numbers}
use Rattle.deck.proofs.NumbersGiven.{deck_given}
use Rattle.contents.specs.Contents.{content_by}
use Rattle.contents.specs.claims.Numbers.{ContentGiven, PlaceGiven}

abbrev Given : Result Unit DeckRefusal → ℕ → Result ℕ DeckRefusal → Type 0
Given a refusal c = NumberGiven deck_numbers refusal (deck_number (content_by a c)) (is_ok (content_by a c))

abbrev OfDeck : Result Unit DeckRefusal → Type 0
OfDeck a = NumberGiven deck_numbers (deck_number a) (deck_number a) (is_ok a)

of_content : (a : Result Unit DeckRefusal) → OfDeck a → (n : ℕ) → Given a (deck_number a) (Ok n)
of_content (Ok x) g n = g
of_content (Err e) g n = g

pub content_given : ContentGiven
content_given d = of_content (read_deck d) (deck_given d) (length (deck_transcripts d))

of_place : (a : Result Unit DeckRefusal) → OfDeck a → (b : Bool) (n : ℕ) → Given a (or_else (deck_number a) (cond b 0 25)) (cond b (Ok n) (Err (refused_at 25 0)))
of_place (Ok x) g true n = g
of_place (Ok x) g false n = record { refusal_is = refl; among = refl; zero_answered = refl }
of_place (Err e) g b n = let z = g.zero_answered in record { refusal_is = rw z; among = g.among; zero_answered = z }

pub place_given : PlaceGiven
place_given d k = of_place (read_deck d) (deck_given d) (ltb k (length (deck_transcripts d))) (length (deck_transcripts d))
