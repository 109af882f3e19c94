-- Demand 1 of asking what a deck contains.
use Rattle.std.specs.Prelude.{ℕ, cond, List, length, ltb}
use Rattle.std.specs.Result.{is_ok}
use Rattle.common.specs.Refuse.{or_else}
use Rattle.transcript.specs.claims.Numbers.{NumberGiven}
use Rattle.deck.specs.Deck.{read_deck, deck_transcripts}
use Rattle.deck.specs.Numbers.{deck_number}
use Rattle.deck.specs.claims.Numbers.{deck_numbers}
use Rattle.contents.specs.Contents.{deck_content, place_content}

abbrev pub ContentGiven : Type 0
ContentGiven = (d : List ℕ) → NumberGiven deck_numbers (deck_number (read_deck d)) (deck_number (deck_content d)) (is_ok (deck_content d))

-- the deck's refusal, else 25 for a place behind the last
abbrev pub place_refusal : List ℕ → ℕ → ℕ
place_refusal d k = or_else (deck_number (read_deck d)) (cond (ltb k (length (deck_transcripts d))) 0 25)

abbrev pub PlaceGiven : Type 0
PlaceGiven = (d : List ℕ) (k : ℕ) → NumberGiven deck_numbers (place_refusal d k) (deck_number (place_content d k)) (is_ok (place_content d k))
