-- Demand 1 of reading a deck.
use Rattle.std.specs.Prelude.{ℕ, ◌≡◌, cond, List, [], ◌∷◌}
use Rattle.std.specs.Result.{is_ok}
use Rattle.transcript.specs.claims.Numbers.{NumberGiven}
use Rattle.deck.specs.Deck.{read_deck}
use Rattle.deck.specs.Numbers.{deck_number, deck_record, deck_values}

abbrev pub deck_numbers : List ℕ
deck_numbers = 0 ∷ 22 ∷ 23 ∷ 25 ∷ 24 ∷ 1 ∷ 2 ∷ 3 ∷ 4 ∷ 5 ∷ 6 ∷ 7 ∷ 8 ∷ 9 ∷ 10 ∷ 11 ∷ 12 ∷ 13 ∷ []

abbrev pub DeckGiven : Type 0
DeckGiven = (d : List ℕ) → NumberGiven deck_numbers (deck_number (read_deck d)) (deck_number (read_deck d)) (is_ok (read_deck d))

-- the record named with a refusal
abbrev pub DeckValued : Type 0
DeckValued = (d : List ℕ) → deck_values (read_deck d) ≡ cond (is_ok (read_deck d)) [] (deck_record (read_deck d) ∷ [])
