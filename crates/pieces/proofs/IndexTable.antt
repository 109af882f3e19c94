-- An index while it is filled, transcript by transcript.
-- Assumes nothing.
use Prim.Native.Nat.{ℕ, suc, ◌≤◌, ◌<◌}
use mathlib.Core.Path.{◌≡◌, ◌∙◌}
use mathlib.Core.List.{List}
use native.Mathlib.Omega.{arith}
use lib.ListN.{length, drop, length-set}
use lib.Seq.{get_or-set_same, get_or-set_other}
use lib.Dec.{eqb}
use borrow.Author.Tests.{eqb-true, eqb-false}
use Rattle.common.proofs.TestParts.{on_test}
use Rattle.transcript.specs.Transcript.{Transcript}
use Rattle.transcript.specs.Orient.{oriented}
use Rattle.transcript.specs.Admission.{admission}
use Rattle.consequence.specs.code.Prepared.{Summed}
use Rattle.deck.specs.declared.rows.Rows.{Rows}
use Rattle.deck.specs.declared.Table.{Table}
use Rattle.deck.specs.code.Table.{InOrder, transcript_in}
use Rattle.pieces.specs.declared.IndexEntry.{IndexEntry}
use Rattle.pieces.specs.declared.TableIndex.{TableIndex}
use Rattle.pieces.specs.code.TableIndex.{is_short, row_sums, entry_of, rows_of, no_entry, entry_at, index_row, cds_row}
use Rattle.pieces.proofs.IndexSums.{KeptBelow, kept_row, sums_kept, first_kept}
use Rattle.pieces.proofs.SummedRows.{summed_here}
use Rattle.pieces.proofs.IndexRows.{exons_end, segments_end, cds_row_is, cds_end_lem}

-- an admitted transcript with its entry and these sums
pub record IndexedAt (t : Table) (e : IndexEntry) (sums : List ℕ) : Type 0 where
  pub order : InOrder (rows_of e)
  pub summed : Summed (transcript_in t (rows_of e)) (drop e.row sums) (drop (cds_row (rows_of e)) sums) e.short

-- columns of the table's length; each of the first j transcripts is indexed, and ends before the row to come
pub record Indexing (t : Table) (x : TableIndex) (j row : ℕ) : Type 0 where
  pub entries : length x.entries ≡ 4096
  pub sums : length x.sums ≡ 4096
  pub before : (i : ℕ) → i < j → (entry_at x i).bases ≤ row
  pub at : (i : ℕ) → i < j → IndexedAt t (entry_at x i) x.sums

-- sums that are stored from the row to come on change nothing at an earlier one
indexed_kept : (t : Table) (row : ℕ) (e : IndexEntry) (sums after : List ℕ) → e.bases ≤ row → KeptBelow row sums after → IndexedAt t e sums → IndexedAt t e after
indexed_kept t row e sums after b q x =
    let r = rows_of e in
    let z = x.summed in
    let i = x.order in
    let f = i.1 in let g = i.2 in let h = i.3 in
    let l = exons_end t r z.admitted i in
    let c = cds_end_lem t r z.admitted i in
    let o = oriented (transcript_in t r) in
    record {
      order = i;
      summed = record {
        admitted = z.admitted;
        exons_are = (sums_kept o.exons e.row row sums after q (omega arith) z.exons_are.0, first_kept o.exons e.row row sums after q (omega arith) ∙ z.exons_are.1);
        segments_are = (sums_kept o.segments (cds_row r) row sums after q (omega arith) z.segments_are.0, first_kept o.segments (cds_row r) row sums after q (omega arith) ∙ z.segments_are.1);
        short_is = z.short_is;
      };
    }

-- one transcript more
module _ (t : Table) (x : TableIndex) (j : ℕ) (r : Rows) (w : Indexing t x j r.row) (order : InOrder r) (m : j < 4096) (h : admission (transcript_in t r) ≡ 0) where
  abbrev u : Transcript
  u = transcript_in t r

  abbrev after : List ℕ
  after = row_sums u r.row r.exons x.sums

  abbrev entry : IndexEntry
  entry = entry_of r (is_short u)

  kept : KeptBelow r.row x.sums after
  kept = let a = order.0 in kept_row u r.row r.exons x.sums (omega arith)

  summed : Summed u (drop r.row after) (drop (cds_row r) after) (is_short u)
  summed =
      let a = exons_end t r h order in
      let n = w.sums in
      let b = order.1 in let c = order.2 in let d = order.3 in let f = order.4 in
      rw (← cds_row_is t r h)
      (summed_here u h r.row r.exons x.sums a (omega arith) (λ g. (let s = segments_end t r h order g in omega arith)))

  -- what holds of each transcript: of the new one, and of another
  split : (P : IndexEntry → Type 0) → P entry → ((i : ℕ) → i < j → P (entry_at x i)) → (i : ℕ) → i < suc j → P (entry_at (index_row t j r x) i)
  unfolding index_row
  split P new old i b = on_test (eqb i j)
      (λ e. (let f = eqb-true i j e in
      rw (f, get_or-set_same x.entries j entry no_entry (let n = w.entries in omega arith)) new))
      (λ e. (let f = eqb-false i j e in
      rw (get_or-set_other x.entries j i entry no_entry f) (old i (omega arith))))

  pub indexing_more : Indexing t (index_row t j r x) (suc j) r.bases
  unfolding index_row
  indexing_more =
      let b = order.0 in let c = order.1 in let f = order.2 in let g = order.3 in
      record {
        entries = length-set x.entries j entry ∙ w.entries;
        sums = kept.count ∙ w.sums;
        before = split (λ e. e.bases ≤ r.bases) (omega arith) (λ i k. (let n = w.before i k in omega arith));
        at = split (λ e. IndexedAt t e after) (record { order = order; summed = summed }) (λ i k. indexed_kept t r.row (entry_at x i) x.sums after (w.before i k) kept (w.at i k));
      }
