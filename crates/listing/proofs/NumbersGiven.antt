-- Demand 1 of the lister: its opening, and what it prints.
-- Assumes nothing.
use Prim.Native.Nat.{ℕ, suc}
use mathlib.Core.Path.{◌≡◌, refl}
use mathlib.Core.Bool.{true, false, cond, ◌||◌}
use mathlib.Core.List.{List, [], ◌∷◌, ◌++◌, map}
use mathlib.Core.Logic.{inl, inr}
use lib.Dec.{eqb}
use Rattle.common.specs.Refuse.{refuse, or_else}
use Rattle.common.specs.Lists.{all, memb, concat}
use Rattle.common.proofs.TestParts.{on_test}
use Rattle.footprint.specs.Ranges.{source_ranges}
use Rattle.transcript.specs.Transcript.{Transcript}
use Rattle.transcript.specs.claims.Numbers.{NumberGiven}
use Rattle.transcript.proofs.NumbersGiven.{among_in}
use Rattle.consequence.specs.Called.{Called}
use Rattle.consequence.specs.Window.{Window}
use Rattle.std.specs.Result.{is_ok}
use Rattle.common.specs.Refusal.{outcome_number}
use Rattle.consequence.specs.claims.Numbers.{call_numbers}
use Rattle.consequence.proofs.NumbersGiven.{call_given}
use Rattle.std.specs.Prelude.{Result, Ok, Err}
use Rattle.common.specs.Refusal.{number}
use Rattle.deck.specs.declared.DeckRefusal.{DeckRefusal}
use Rattle.deck.specs.Deck.{read_deck, deck_transcripts}
use Rattle.deck.specs.Numbers.{deck_number, deck_record}
use Rattle.deck.specs.claims.Numbers.{deck_numbers}
use Rattle.deck.proofs.NumbersGiven.{deck_given}
use Rattle.lines.specs.Line.{called_line}
use Rattle.std.specs.Prelude.{Option, Some, None}
use Rattle.consequence.specs.declared.Call.{Call}
use Rattle.listing.specs.WindowFile.{bad_window_file, bad_call_file, window_of}
use Rattle.listing.specs.Calls.{lines_of, fields_of, is_call, call_of, parse_call}
use Rattle.listing.specs.Entries.{Entry, entry_line, listed_call, call_entries, entries}
use Rattle.listing.specs.Listing.{opening_by, opening, listed, listing_by, listing}
use Rattle.listing.specs.Numbers.{opening_values}
use Rattle.listing.specs.claims.Numbers.{ParsedGiven, opening_numbers, OpeningGiven, OpeningValued, Each, printed_numbers, Printed, ListingGiven}

pub parsed_given : ParsedGiven
unfolding parse_call call_of
parsed_given l = on_test (is_call (fields_of l)) (λ e. rw e (refl, refl)) (λ e. rw e (refl, refl))

-- a deck's answer
abbrev Judged : Result Unit DeckRefusal → Type 0
Judged a = NumberGiven deck_numbers (deck_number a) (deck_number a) (is_ok a)

abbrev OpensBy : Result Unit DeckRefusal → List ℕ → List ℕ → Type 0
OpensBy a window calls =
    NumberGiven opening_numbers (or_else (deck_number a) (refuse (bad_window_file window || bad_call_file calls) 27 0))
    (deck_number (opening_by a window calls)) (is_ok (opening_by a window calls))

opening_by_lem : (a : Result Unit DeckRefusal) → Judged a → (window calls : List ℕ) → OpensBy a window calls
opening_by_lem (Err e) g window calls = record {
  refusal_is = rw g.zero_answered;
  among = among_in deck_numbers opening_numbers refl (number e.refusal) g.among;
  zero_answered = g.zero_answered;
}
opening_by_lem (Ok x) g window calls = on_test (bad_window_file window || bad_call_file calls)
    (λ e. rw e (record { refusal_is = refl; among = refl; zero_answered = refl }))
    (λ e. rw e (record { refusal_is = refl; among = refl; zero_answered = refl }))

pub opening_given : OpeningGiven
unfolding opening
opening_given deck window calls = opening_by_lem (read_deck deck) (deck_given deck) window calls

opening_valued_lem : (a : Result Unit DeckRefusal) (window calls : List ℕ) →
    opening_values (opening_by a window calls) ≡ cond (is_ok (opening_by a window calls)) [] (deck_record a ∷ [])
opening_valued_lem (Err e) window calls = refl
opening_valued_lem (Ok x) window calls = on_test (bad_window_file window || bad_call_file calls) (λ e. rw e) (λ e. rw e)

pub opening_valued : OpeningValued
unfolding opening
opening_valued deck window calls = opening_valued_lem (read_deck deck) window calls

module _ {A : Type 0} (so : A → Type 0) where
  pub each_both : (xs ys : List A) → Each so xs → Each so ys → Each so (xs ++ ys)
  each_both [] ys h k = k
  each_both (x ∷ xs) ys h k = (h.0, each_both xs ys h.1 k)

  pub each_of : {B : Type 0} (f : B → A) → ((b : B) → so (f b)) → (bs : List B) → Each so (map f bs)
  each_of f h [] = tt
  each_of f h (b ∷ bs) = (h b, each_of f h bs)

-- one of some numbers that is not 0 is printed
printed_number : (ns : List ℕ) → all (λ n. memb n (0 ∷ printed_numbers)) ns ≡ true → (n : ℕ) → memb n ns ≡ true → eqb n 0 ≡ false → memb n printed_numbers ≡ true
printed_number ns h n k z = rw z at (among_in ns (0 ∷ printed_numbers) h n k)

called_printed : (line id : ℕ) {w : ℕ} (x : Called) → NumberGiven call_numbers w (outcome_number x) (is_ok x) → Printed (called_line line id x)
called_printed line id (Ok a) g = inl (line, id, a, refl)
called_printed line id (Err r) g = inr (line, id, number r, printed_number call_numbers refl (number r) g.among g.zero_answered, refl)

-- the line of an entry
abbrev PrintedEntry : Entry → Type 0
PrintedEntry e = Printed (entry_line e)

call_printed : (ts : List Transcript) (w : Window) (number : ℕ) (p : Option Call) → Each PrintedEntry (call_entries ts w number p)
call_printed ts w number (Some q) =
    each_of PrintedEntry (λ (t : Transcript). record { number = number; id = t.model.id; answer = listed_call t w q })
    (λ t. called_printed number t.model.id (listed_call t w q) (call_given source_ranges t w q)) ts
call_printed ts w number None = (inr (number, 0, 26, refl, refl), tt)

all_printed : (ts : List Transcript) (w : Window) (number : ℕ) (ls : List (List ℕ)) → Each PrintedEntry (concat (entries ts w number ls))
unfolding entries concat
all_printed ts w number [] = tt
all_printed ts w number (l ∷ ls) =
    each_both PrintedEntry (call_entries ts w number (parse_call l)) (concat (entries ts w (suc number) ls)) (call_printed ts w number (parse_call l)) (all_printed ts w (suc number) ls)

lines_printed : (es : List Entry) → Each PrintedEntry es → Each Printed (map entry_line es)
lines_printed [] h = tt
lines_printed (e ∷ es) h = (h.0, lines_printed es h.1)

printed_by : (a : Result Unit DeckRefusal) → Judged a → (deck window calls : List ℕ) → Each Printed (listing_by (opening_by a window calls) (listed deck window calls))
printed_by (Err e) g deck window calls = (inr (0, e.record, number e.refusal, printed_number deck_numbers refl (number e.refusal) g.among g.zero_answered, refl), tt)
printed_by (Ok x) g deck window calls = on_test (bad_window_file window || bad_call_file calls)
    (λ e. rw e (inr (0, 0, 27, refl, refl), tt))
    (λ e. rw e (lines_printed (concat (listed deck window calls)) (all_printed (deck_transcripts deck) (window_of window) 1 (lines_of calls))))

pub listing_given : ListingGiven
unfolding listing opening
listing_given deck window calls = printed_by (read_deck deck) (deck_given deck) deck window calls
