-- An accepted deck's table has the deck's transcripts, and all of them are admitted.
-- Assumes nothing.
use Rattle.common.specs.declared.refusal.Refusal.{Refusal}
use Prim.Native.Nat.{ℕ, ◌≤◌}
use mathlib.Core.Path.{◌≡◌, refl, sym, ◌∙◌, ap, subst}
use mathlib.Core.Bool.{◌||◌}
use mathlib.Core.List.{List, [], ◌∷◌}
use lib.ListN.{length, get_or}
use Rattle.common.proofs.TestParts.{on_test}
use Rattle.transcript.specs.Admission.{admission_of}
use Rattle.transcript.proofs.Asking.{admitted_is}
use Rattle.std.specs.Prelude.{Result, Ok, Err}
use Rattle.deck.specs.declared.DeckRefusal.{DeckRefusal}
use Rattle.deck.specs.Walk.{walk_deck}
use Rattle.deck.specs.Deck.{admitted_then, read_deck, deck_transcripts}
use Rattle.deck.specs.code.Order.{order_of}
use Rattle.deck.specs.declared.rows.Rows.{Rows}
use Rattle.deck.specs.declared.Table.{Table}
use Rattle.deck.specs.code.Table.{table_of, transcript_in, transcript_rows, table_transcripts, admit_rows, table_by, deck_table}
use Rattle.deck.proofs.Accepted.{sound_deck, sound_admission, table_holds}
use Rattle.listing.specs.WindowFile.{bad_window_file, bad_call_file}
use Rattle.listing.specs.Listing.{opening_by, opening}
use Rattle.pieces.specs.declared.TableIndex.{TableIndex}
use Rattle.pieces.specs.code.TableIndex.{Admits, AllAdmitted}
use Rattle.pieces.specs.code.Opening.{index_by, opened}
use Rattle.pieces.proofs.FilesJudged.{right_files}

admits_rows : (records : List ℕ) (t : Table) (rs : List Rows) → admit_rows records t rs ≡ Ok tt → Admits t rs
unfolding admit_rows
admits_rows records t [] e = tt
admits_rows records t (r ∷ rs) e = here (admission_of (transcript_in t r)) refl e (admits_rows records t rs)
  where
    here : (a : Result (Unit {0}) Refusal) → admission_of (transcript_in t r) ≡ a → admitted_then a (get_or records r.row 0) (admit_rows records t rs) ≡ Ok tt
        → (admit_rows records t rs ≡ Ok tt → Admits t rs) → Admits t (r ∷ rs)
    here (Ok u) q h on = (admitted_is (transcript_in t r) (admission_of (transcript_in t r)) refl u q, on h)
    here (Err n) q h on = cc

pub all_admitted : (d : List ℕ) → read_deck d ≡ Ok tt → AllAdmitted (deck_table d)
unfolding deck_table
all_admitted d e =
    let s = sound_deck d e in
    let t = table_of d (order_of (walk_deck d)) in
    subst (λ (b : Result ℕ DeckRefusal). AllAdmitted (table_by d b)) (sym s.1) (admits_rows (order_of (walk_deck d)) t (transcript_rows t) (sound_admission d s.1 ∙ e))

-- a listing that is opened
module _ (deck window calls : List ℕ) where
  judged : (a : Result Unit DeckRefusal) → opening_by a window calls ≡ Ok tt → (a ≡ Ok tt) × (length calls ≤ 65_536)
  judged (Err r) e = cc
  judged (Ok x) e = on_test (bad_window_file window || bad_call_file calls)
      (λ b. let y = rw b at e in cc)
      (λ b. (refl, (right_files window calls b).1))

  pub opened_deck : opening deck window calls ≡ Ok tt → (read_deck deck ≡ Ok tt) × (length calls ≤ 65_536)
  unfolding opening
  opened_deck e = judged (read_deck deck) e

  pub opened_transcripts : opening deck window calls ≡ Ok tt → table_transcripts (deck_table deck) ≡ deck_transcripts deck
  opened_transcripts e = table_holds deck (opened_deck e).0

  pub table_admitted : {a : Result Unit DeckRefusal} {v : Result Unit DeckRefusal} {t : Table} → a ≡ read_deck deck → v ≡ opening_by a window calls → v ≡ Ok tt → t ≡ deck_table deck → AllAdmitted t
  table_admitted {a} ea ev eo et = subst AllAdmitted (sym et) (all_admitted deck (sym ea ∙ (judged a (sym ev ∙ eo)).0))

  pub opened_is : {a : Result Unit DeckRefusal} {v o : Result Unit DeckRefusal} {t : Table} {x : TableIndex} → a ≡ read_deck deck → v ≡ opening_by a window calls → v ≡ o
      → t ≡ deck_table deck → x ≡ index_by o t → record { opening = o; table = t; index = x } ≡ opened deck window calls
  unfolding opened opening
  opened_is ea ev eo et ex =
      let h = sym eo ∙ ev ∙ ap (λ (b : Result Unit DeckRefusal). opening_by b window calls) ea in
      rw (ex, h, et)
