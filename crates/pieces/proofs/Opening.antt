-- What an opened listing tells of its lines.
-- Assumes nothing.
use Rattle.std.specs.Prelude.{Err, Ok}
use Prim.Native.Nat.{ℕ, ◌≤◌}
use mathlib.Core.Path.{◌≡◌, sym, ◌∙◌, ap, subst}
use mathlib.Core.List.{List, [], ◌∷◌}
use lib.ListN.{length}
use Rattle.deck.specs.code.Table.{table_transcripts, deck_table}
use Rattle.common.specs.Refusal.{number}
use Rattle.deck.specs.declared.DeckRefusal.{DeckRefusal}
use Rattle.lines.specs.Line.{refusal_line}
use Rattle.listing.specs.declared.Cursor.{Cursor}
use Rattle.listing.specs.declared.Piece.{Piece}
use Rattle.listing.specs.WindowFile.{window_of}
use Rattle.listing.specs.Listing.{opening}
use Rattle.listing.specs.Pieces.{Step, steps_at, steps, pack, piece_by, piece_of, piece_to}
use Rattle.std.specs.Prelude.{Result}
use Rattle.common.specs.declared.refusal.Refusal.{Refusal}
use Rattle.pieces.specs.code.TableIndex.{AllAdmitted, table_index}
use Rattle.pieces.specs.code.Opening.{OpenedListing, index_by, opened}
use Rattle.pieces.specs.code.Filling.{filled_as}
use Rattle.pieces.proofs.Admitting.{all_admitted, opened_deck, opened_transcripts}

module _ (deck window calls : List ℕ) {o : OpenedListing} (e : o ≡ opened deck window calls) where
  opening_is : o.opening ≡ opening deck window calls
  unfolding opened
  opening_is = ap (λ (x : OpenedListing). x.opening) e

  table_is : o.table ≡ deck_table deck
  unfolding opened
  table_is = ap (λ (x : OpenedListing). x.table) e

  index_is : o.opening ≡ Ok tt → o.index ≡ table_index (deck_table deck)
  unfolding opened
  index_is h = ap (λ (x : OpenedListing). x.index) e ∙ ap (λ (j : Result Unit DeckRefusal). index_by j (deck_table deck)) (sym opening_is ∙ h)

  pub opened_ready : o.opening ≡ Ok tt → AllAdmitted o.table × ((o.index ≡ table_index o.table) × (length calls ≤ 65_536))
  opened_ready h =
      let d = opened_deck deck window calls (sym opening_is ∙ h) in
      (subst AllAdmitted (sym table_is) (all_admitted deck d.0), (index_is h ∙ ap table_index (sym table_is), d.1))

  pub refused_steps : {n : DeckRefusal} (c : Cursor) → o.opening ≡ Err n → steps deck window calls c ≡ record { before = c; text = refusal_line 0 n.«record» (number n.refusal) } ∷ []
  unfolding steps
  refused_steps c h = rw (sym opening_is ∙ h)

  pub opened_steps : (c : Cursor) → o.opening ≡ Ok tt → steps deck window calls c ≡ steps_at (table_transcripts o.table) (window_of window) calls c
  unfolding steps
  opened_steps c h =
      let l = sym opening_is ∙ h in
      rw (l, table_is, opened_transcripts deck window calls l)

-- a piece, from what was put
pub piece_made : (buffer : List ℕ) (ss : List Step) {f : Piece} {after : List ℕ} {r : Result Piece Refusal} {ts : List Step} → ts ≡ ss
    → (f ≡ filled_as (pack (length buffer) ss)) × (after ≡ piece_to buffer (pack (length buffer) ss)) → r ≡ piece_by f.length f.next
    → (r ≡ piece_of (pack (length buffer) ts)) × (after ≡ piece_to buffer (pack (length buffer) ts))
piece_made buffer ss {f} q h p = rw q (p ∙ ap (λ (x : Piece). piece_by x.length x.next) h.0, h.1)
