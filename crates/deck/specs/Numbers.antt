-- What a deck's answer stands for: its refusal number, 0 where the deck is accepted, and the record named with it.
use Rattle.std.specs.Prelude.{ℕ, List, [], ◌∷◌, Result, Ok, Err}
use Rattle.common.specs.Refusal.{number}
use Rattle.deck.specs.declared.DeckRefusal.{DeckRefusal}

-- the refusal number, 0 where the deck is accepted, and the record named with it
abbrev pub deck_number : {A : Type 0} → Result A DeckRefusal → ℕ
deck_number (Ok x) = 0
deck_number (Err e) = number e.refusal

abbrev pub deck_record : {A : Type 0} → Result A DeckRefusal → ℕ
deck_record (Ok x) = 0
deck_record (Err e) = e.record

-- the record named with a refusal
abbrev pub deck_values : {A : Type 0} → Result A DeckRefusal → List ℕ
deck_values (Ok x) = []
deck_values (Err e) = e.record ∷ []
