-- What each case of the lister's answers stands for: its refusal number, 0 for an answer, and its values. An opening's number is
-- deck's `deck_number`, a piece's `outcome_number`.
use Rattle.std.specs.Prelude.{ℕ, List, [], ◌∷◌, Option, Some, None, Result, Ok, Err}
use Rattle.common.specs.declared.refusal.Refusal.{Refusal}
use Rattle.consequence.specs.declared.Call.{Call}
use Rattle.deck.specs.declared.DeckRefusal.{DeckRefusal}
use Rattle.listing.specs.declared.Cursor.{Cursor}
use Rattle.listing.specs.declared.Piece.{Piece}

abbrev pub parsed_number : Option Call → ℕ
parsed_number (Some q) = 0
parsed_number None = 26

abbrev pub parsed_values : Option Call → List ℕ
parsed_values (Some q) = q.chromosome ∷ q.position ∷ q.ref_base ∷ q.alt_base ∷ []
parsed_values None = []

-- the record named with a refusal
abbrev pub opening_values : Result Unit DeckRefusal → List ℕ
opening_values (Ok x) = []
opening_values (Err e) = e.«record» ∷ []

-- the cursor's numbers, none behind the last lines
abbrev pub next_values : Option Cursor → List ℕ
next_values (Some c) = c.at ∷ c.entry ∷ []
next_values None = []

-- how many bytes were written, and the cursor behind them
abbrev pub piece_values : Result Piece Refusal → List ℕ
piece_values (Ok p) = p.length ∷ next_values p.next
piece_values (Err r) = []
