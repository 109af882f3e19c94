-- The index of a table, from its first transcript to its last.
-- Assumes nothing.
use Prim.Native.Nat.{ℕ, zero, suc, ◌+◌, ◌≤◌, ◌<◌}
use mathlib.Core.Path.{◌≡◌, refl, sym, subst}
use mathlib.Core.Bool.{Bool}
use mathlib.Core.List.{List, ◌∷◌}
use native.Mathlib.Omega.{arith}
use native.Mathlib.Numerals.{add-one}
use lib.ListN.{set, length-replicate}
use Rattle.common.proofs.TestParts.{on_test}
use Rattle.deck.specs.declared.rows.Rows.{Rows}
use Rattle.deck.specs.declared.Table.{Table}
use Rattle.deck.specs.code.Table.{is_kind, rows_at, rows_from, transcript_in}
use Rattle.deck.proofs.RowOrder.{row_is, row_inside, rows_past, rows_in_order}
use Rattle.pieces.specs.declared.TableIndex.{TableIndex}
use Rattle.pieces.specs.code.TableIndex.{Admits, AllAdmitted, is_short, row_sums, entry_of, no_entry, entry_at, index_row, index_rows, empty_index, table_index}
use Rattle.pieces.proofs.IndexTable.{IndexedAt, Indexing, indexing_more}

-- the first of the transcripts that are left
pub index_on : (t : Table) {left rest : List Rows} {r : Rows} → left ≡ r ∷ rest → (j : ℕ) (x : TableIndex) {i : Bool} {after : List ℕ}
    → i ≡ is_short (transcript_in t r) → after ≡ row_sums (transcript_in t r) r.row r.exons x.sums
    → index_rows t (j + 1) rest (record { count = j + 1; entries = set x.entries j (entry_of r i); sums = after }) ≡ index_rows t j left x
unfolding index_row
index_on t e j x ei ea = rw (e, ea, ei, add-one)

indexing_none : (t : Table) → Indexing t empty_index 0 0
unfolding empty_index
indexing_none t = record {
  entries = length-replicate 4096 no_entry;
  sums = length-replicate {A = ℕ} 4096 0;
  before = λ i h. absurd (omega arith);
  at = λ i h. absurd (omega arith);
}

-- every transcript is indexed
abbrev pub TableIndexed : Table → TableIndex → Type 0
TableIndexed t x = (i : ℕ) → i < x.count → IndexedAt t (entry_at x i) x.sums

rows_indexed : (t : Table) (n j k : ℕ) (x : TableIndex) → j ≤ k → x.count ≡ j → Indexing t x j k → Admits t (rows_from n t.kinds k) → TableIndexed t (index_rows t j (rows_from n t.kinds k) x)
unfolding rows_from index_row
rows_indexed t zero j k x l c w a = λ i h. w.at i (omega arith)
rows_indexed t (suc n) j k x l c w a = on_test (is_kind t.kinds 1 k)
    (λ e. (let b = rw e at a in
    let r = rows_at t.kinds k in
    let p = rows_past t.kinds k in
    let q = row_inside t.kinds 1 k e in
    let v = subst (λ (row : ℕ). Indexing t x j row) (sym (row_is t.kinds k)) w in
    rw e (rows_indexed t n (suc j) r.bases (index_row t j r x) (omega arith) refl (indexing_more t x j r v (rows_in_order t.kinds k q) (omega arith) b.0) b.1)))
    (λ e. rw e (λ i h. w.at i (omega arith)))

pub table_indexed : (t : Table) → AllAdmitted t → TableIndexed t (table_index t)
unfolding empty_index
table_indexed t a = rows_indexed t 4096 0 0 empty_index (omega arith) refl (indexing_none t) a
