-- Demand 1 of the lister: its opening, its pieces, and every line that it prints.
use Rattle.std.specs.Prelude.{ℕ, ◌≡◌, Bool, true, false, cond, not, ◌||◌, List, [], ◌∷◌, ◌⊎◌, length, get_or, ltb}
use Rattle.std.specs.Result.{is_ok}
use Rattle.common.specs.Refusal.{outcome_number}
use Rattle.common.specs.Refuse.{refuse, or_else}
use Rattle.common.specs.Lists.{memb}
use Rattle.transcript.specs.claims.Numbers.{NumberGiven}
use Rattle.consequence.specs.declared.ConsequenceResult.{ConsequenceResult}
use Rattle.deck.specs.Deck.{read_deck}
use Rattle.deck.specs.Numbers.{deck_number, deck_record}
use Rattle.lines.specs.Line.{answer_line, refusal_line}
use Rattle.lines.specs.claims.Numbers.{written_numbers}
use Rattle.listing.specs.WindowFile.{bad_window_file, bad_call_file}
use Rattle.listing.specs.declared.Cursor.{Cursor}
use Rattle.listing.specs.Calls.{fields_of, field, value, is_call, parse_call}
use Rattle.listing.specs.Listing.{opening, listing}
use Rattle.listing.specs.Pieces.{Step, steps, packed, piece_of}
use Rattle.listing.specs.Numbers.{parsed_number, parsed_values, opening_values}

-- 26 where a line has another shape; else the values of its four fields
abbrev pub ParsedGiven : Type 0
ParsedGiven =
    (l : List ℕ) →
    let fs = fields_of l in
    (parsed_number (parse_call l) ≡ refuse (not (is_call fs)) 26 0)
    × (parsed_values (parse_call l) ≡ cond (is_call fs) (value (field fs 0) ∷ value (field fs 1) ∷ get_or (field fs 2) 0 0 ∷ get_or (field fs 3) 0 0 ∷ []) [])

-- a deck's numbers, then 27
abbrev pub opening_numbers : List ℕ
opening_numbers = 0 ∷ 22 ∷ 23 ∷ 25 ∷ 24 ∷ 1 ∷ 2 ∷ 3 ∷ 4 ∷ 5 ∷ 6 ∷ 7 ∷ 8 ∷ 9 ∷ 10 ∷ 11 ∷ 12 ∷ 13 ∷ 27 ∷ []

abbrev pub OpeningGiven : Type 0
OpeningGiven =
    (deck window calls : List ℕ) →
    NumberGiven opening_numbers (or_else (deck_number (read_deck deck)) (refuse (bad_window_file window || bad_call_file calls) 27 0))
    (deck_number (opening deck window calls)) (is_ok (opening deck window calls))

-- the record named with a refusal: the deck's, 0 with 27
abbrev pub OpeningValued : Type 0
OpeningValued =
    (deck window calls : List ℕ) →
    opening_values (opening deck window calls) ≡ cond (is_ok (opening deck window calls)) [] (deck_record (read_deck deck) ∷ [])

-- the first line is longer than the room
abbrev pub line_too_long : ℕ → List Step → Bool
line_too_long room [] = false
line_too_long room (s ∷ ss) = ltb room (length s.text)

-- 28 where the first line is longer than the lent buffer, and only then; a refused deck, window or call gives a line
abbrev pub PieceGiven : Type 0
PieceGiven =
    (deck window calls : List ℕ) (c : Cursor) (buffer : List ℕ) →
    let p = piece_of (packed deck window calls c buffer) in
    NumberGiven written_numbers (refuse (line_too_long (length buffer) (steps deck window calls c)) 28 0) (outcome_number p) (is_ok p)

-- every element is so
abbrev pub Each : {A : Type 0} → (A → Type 0) → List A → Type 0
Each so [] = Unit {0}
Each so (x ∷ xs) = so x × Each so xs

abbrev pub printed_numbers : List ℕ
printed_numbers =
    1 ∷ 2 ∷ 3 ∷ 4 ∷ 5 ∷ 6 ∷ 7 ∷ 8 ∷ 9 ∷ 10 ∷ 11 ∷ 12 ∷ 13 ∷ 14 ∷ 15 ∷ 16 ∷ 17 ∷ 18 ∷ 19 ∷ 21 ∷ 22 ∷ 23 ∷ 24 ∷ 25 ∷ 26 ∷ 27 ∷ []

-- the line of an answered call, or that of a refusal by one of the numbers 1 to 27, 20 left out
abbrev pub Printed : List ℕ → Type 0
Printed l =
    ((number : ℕ) × (id : ℕ) × (a : ConsequenceResult) × (l ≡ answer_line number id a))
    ⊎ ((number : ℕ) × (id : ℕ) × (n : ℕ) × (memb n printed_numbers ≡ true) × (l ≡ refusal_line number id n))

abbrev pub ListingGiven : Type 0
ListingGiven = (deck window calls : List ℕ) → Each Printed (listing deck window calls)
