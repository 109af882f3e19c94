-- The entries of an index are those of the table's transcripts.
-- Assumes nothing.
use Prim.Native.Nat.{ℕ, zero, suc, ◌+◌, ◌≤◌, ◌<◌}
use mathlib.Core.Path.{◌≡◌, refl, sym, ◌∙◌, ap}
use mathlib.Core.List.{List, [], ◌∷◌}
use native.Mathlib.Omega.{arith}
use lib.ListN.{length, get_or, length-set, length-replicate}
use lib.Seq.{get_or-set_same, get_or-set_other}
use Rattle.deck.specs.declared.rows.Rows.{Rows}
use Rattle.deck.specs.declared.Table.{Table}
use Rattle.deck.specs.code.Table.{transcript_in, transcript_rows}
use Rattle.deck.proofs.RowOrder.{rows_few}
use Rattle.pieces.specs.declared.TableIndex.{TableIndex}
use Rattle.pieces.specs.code.TableIndex.{is_short, entry_of, rows_of, no_entry, entry_at, rows_in, index_row, index_rows, empty_index, table_index}

module _ (t : Table) where
  counted : (rs : List Rows) (j : ℕ) (x : TableIndex) → x.count ≡ j → (index_rows t j rs x).count ≡ j + length rs
  unfolding index_row
  counted [] j x c = omega arith
  counted (r ∷ rs) j x c = let n = counted rs (suc j) (index_row t j r x) refl in omega arith

  kept : (rs : List Rows) (j : ℕ) (x : TableIndex) (i : ℕ) → i < j → entry_at (index_rows t j rs x) i ≡ entry_at x i
  unfolding index_row
  kept [] j x i h = refl
  kept (r ∷ rs) j x i h = kept rs (suc j) (index_row t j r x) i (omega arith) ∙ get_or-set_other x.entries j i (entry_of r (is_short (transcript_in t r))) no_entry (λ e. omega arith)

  stored : (rs : List Rows) (j : ℕ) (x : TableIndex) (i : ℕ) → i < length rs → j + length rs ≤ length x.entries
      → rows_in (index_rows t j rs x) (j + i) ≡ get_or rs i (rows_of no_entry)
  unfolding index_row
  stored [] j x i h l = absurd (omega arith)
  stored (r ∷ rs) j x zero h l =
      let e : j + 0 ≡ j = omega arith in
      ap (λ (m : ℕ). rows_in (index_rows t j (r ∷ rs) x) m) e
      ∙ ap rows_of (kept rs (suc j) (index_row t j r x) j (omega arith) ∙ get_or-set_same x.entries j (entry_of r (is_short (transcript_in t r))) no_entry (omega arith))
  stored (r ∷ rs) j x (suc i) h l =
      let e : j + suc i ≡ suc j + i = omega arith in
      let n = length-set x.entries j (entry_of r (is_short (transcript_in t r))) in
      ap (λ (m : ℕ). rows_in (index_rows t j (r ∷ rs) x) m) e ∙ stored rs (suc j) (index_row t j r x) i (omega arith) (omega arith)

  pub index_count : (table_index t).count ≡ length (transcript_rows t)
  unfolding empty_index
  index_count = let e = counted (transcript_rows t) 0 empty_index refl in omega arith

  pub index_few : (table_index t).count ≤ 4096
  index_few = let e = index_count in let f = rows_few 4096 t.kinds 0 in omega arith

  pub index_rows_lem : (i : ℕ) → i < length (transcript_rows t) → rows_in (table_index t) i ≡ get_or (transcript_rows t) i (rows_of no_entry)
  unfolding empty_index
  index_rows_lem i h =
      let f = rows_few 4096 t.kinds 0 in
      let n = length-replicate 4096 no_entry in
      let e : 0 + i ≡ i = omega arith in
      sym (ap (λ (m : ℕ). rows_in (table_index t) m) e) ∙ stored (transcript_rows t) 0 empty_index i h (omega arith)
