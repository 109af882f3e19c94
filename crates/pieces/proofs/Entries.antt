-- The entries of one call, by the index.
-- Assumes nothing.
use Prim.Native.Nat.{ℕ, zero, suc, ◌+◌, ◌-◌, ◌≤◌, ◌<◌}
use mathlib.Core.Path.{◌≡◌, refl, ◌∙◌, ap, subst}
use mathlib.Core.List.{List, [], ◌∷◌, ◌++◌, map}
use native.Mathlib.Omega.{arith}
use native.Mathlib.Numerals.{add-one}
use lib.ListN.{length, get_or, drop, length-map, drop_of_length-le}
use borrow.Rule.Slice.PartMut.{mid_of, put_mid}
use Rattle.transcript.specs.Transcript.{Transcript}
use Rattle.consequence.specs.declared.Call.{Call}
use Rattle.consequence.specs.Called.{Called}
use Rattle.consequence.specs.Window.{Window}
use Rattle.deck.specs.declared.rows.Rows.{Rows}
use Rattle.deck.specs.declared.Table.{Table}
use Rattle.deck.specs.code.Table.{model_in, transcript_in, transcript_rows, table_transcripts}
use Rattle.std.specs.Prelude.{Some, Result, Ok, Err}
use Rattle.common.specs.declared.refusal.Refusal.{Refusal}
use Rattle.lines.specs.Line.{called_line, write_answer, written_to}
use Rattle.listing.specs.declared.Cursor.{Cursor}
use Rattle.listing.specs.declared.Piece.{Piece}
use Rattle.listing.specs.Entries.{Entry, entry_line, listed_call, call_entry, call_entries}
use Rattle.listing.specs.Pieces.{Step, call_steps, Packed, pack, piece_to}
use Rattle.pieces.specs.declared.TableIndex.{TableIndex}
use Rattle.pieces.specs.code.TableIndex.{AllAdmitted, table_index, rows_of, no_entry, entry_at, rows_in}
use Rattle.pieces.specs.code.Filling.{filled_as}
use Rattle.pieces.proofs.IndexTable.{IndexedAt}
use Rattle.pieces.proofs.WholeIndex.{table_indexed}
use Rattle.pieces.proofs.IndexedRows.{index_count, index_few, index_rows_lem}
use Rattle.pieces.proofs.Filling.{Filling, line_put, line_left, filling_more, filling_stop}

mapped_on : {A : Type 0} (f : Transcript → A) (g : Rows → Transcript) (rs : List Rows) (d : Rows) (i : ℕ) → i < length rs
    → drop i (map f (map g rs)) ≡ f (g (get_or rs i d)) ∷ drop (suc i) (map f (map g rs))
mapped_on f g [] d i h = absurd (omega arith)
mapped_on f g (r ∷ rs) d zero h = refl
mapped_on f g (r ∷ rs) d (suc i) h = mapped_on f g rs d i (omega arith)

module _ (t : Table) (x : TableIndex) (e : x ≡ table_index t) where
  pub count_low : x.count ≤ 4096
  count_low = let a = ap (λ (y : TableIndex). y.count) e in let b = index_few t in omega arith

  -- one of the transcripts
  module _ (a : AllAdmitted t) (i : ℕ) (l : i < x.count) where
    abbrev r : Rows
    r = rows_in x i

    pub ready : IndexedAt t (entry_at x i) x.sums
    ready = (rw (← e) at (table_indexed t a)) i l

    pub row_below : r.row < 4096
    row_below = let o = ready.order in let b = o.0 in let c = o.1 in let d = o.2 in let f = o.3 in let g = o.4 in omega arith

    pub entry_line_lem : (w : Window) (number : ℕ) (c : Call) {called : Called} → called ≡ listed_call (transcript_in t r) w c
        → called_line number (get_or t.ids r.row 0) called ≡ entry_line (call_entry w number c (transcript_in t r))
    unfolding transcript_in model_in
    entry_line_lem w number c h = rw h

  module _ (w : Window) (number : ℕ) (q : Call) (at : ℕ) where
    abbrev es : List Entry
    es = call_entries (table_transcripts t) w number (Some q)

    abbrev line : ℕ → List ℕ
    line i = entry_line (call_entry w number q (transcript_in t (rows_in x i)))

    abbrev cursor : ℕ → Cursor
    cursor i = record { at = at; entry = i }

    steps_on : (i : ℕ) → i < x.count → call_steps at i (drop i es) ≡ (record { before = cursor i; text = line i } ∷ []) ++ call_steps at (i + 1) (drop (i + 1) es)
    steps_on i l =
        let c = ap (λ (y : TableIndex). y.count) e in
        let n = index_count t in
        let r : rows_in x i ≡ get_or (transcript_rows t) i (rows_of no_entry) = ap (λ (y : TableIndex). rows_in y i) e ∙ index_rows_lem t i (omega arith) in
        rw (mapped_on (call_entry w number q) (transcript_in t) (transcript_rows t) (rows_of no_entry) i (omega arith), r, add-one)

    pub steps_end : (i : ℕ) → x.count ≤ i → call_steps at i (drop i es) ≡ []
    steps_end i l =
        let c = ap (λ (y : TableIndex). y.count) e in
        let n = index_count t in
        let a = length-map (transcript_rows t) (transcript_in t) in
        let b = length-map (table_transcripts t) (call_entry w number q) in
        rw (drop_of_length-le es {i = i} (omega arith))

    -- the line of one transcript that is put behind the others, or is left
    module _ {before after : List ℕ} {filled : ℕ} {whole : Packed} (i : ℕ) (l : i < x.count) (f : Filling before after filled (call_steps at i (drop i es)) whole)
        {v : Result ℕ Refusal} {last : List ℕ} (u : v ≡ write_answer (mid_of filled (length after - filled) after) (line i)) (z : last ≡ written_to (mid_of filled (length after - filled) after) (line i)) where
      abbrev mid : List ℕ
      mid = mid_of filled (length after - filled) after

      abbrev one : List Step
      one = record { before = cursor i; text = line i } ∷ []

      on : Filling before after filled (one ++ call_steps at (i + 1) (drop (i + 1) es)) whole
      on = subst (λ (ss : List Step). Filling before after filled ss whole) (steps_on i l) f

      pub entry_put : {n : ℕ} → v ≡ Ok n → Filling before (put_mid filled (length after - filled) after last) (filled + n) (call_steps at (i + 1) (drop (i + 1) es)) whole
      entry_put h =
          let p = line_put mid (line i) (cursor i) u z h in
          rw p.0 (filling_more one (call_steps at (i + 1) (drop (i + 1) es)) on p.2 p.1)

      pub entry_left : {n : Refusal} → v ≡ Err n
          → (◌≡◌ {A = Piece} (record { length = filled; next = Some (cursor i) }) (filled_as whole)) × (put_mid filled (length after - filled) after last ≡ piece_to before whole)
      entry_left h =
          let p = line_left mid (line i) (cursor i) u z h in
          let s = filling_stop one (call_steps at (i + 1) (drop (i + 1) es)) on p.2 p.1 in
          let y = p.0 in
          let m : filled ≡ filled + length (pack (length mid) one).text = omega arith in
          (ap (λ (k : ℕ). record { length = k; next = Some (cursor i) }) m ∙ s.0, s.1)
