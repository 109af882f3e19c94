-- The index of a table: what is computed once for its transcripts.
use Rattle.std.specs.Prelude.{ℕ, suc, ◌≡◌, Bool, false, cond, List, [], ◌∷◌, map, set, get_or, replicate, eqb}
use Rattle.std.specs.Coded.{×_prop, Unit-prop, Coded-set, coded_ℕ}
use Rattle.common.specs.Lists.{any}
use Rattle.common.specs.Stored.{stored}
use Rattle.transcript.specs.Transcript.{Transcript}
use Rattle.transcript.specs.Orient.{Oriented, oriented}
use Rattle.transcript.specs.Bases.{size, gaps}
use Rattle.transcript.specs.Admission.{admission}
use Rattle.footprint.specs.ShortIntron.{is_frameshift_gap}
use Rattle.locate.specs.Index.{cumulative}
use Rattle.pieces.specs.declared.IndexEntry.{IndexEntry}
use Rattle.pieces.specs.declared.TableIndex.{TableIndex}
use Rattle.deck.specs.declared.rows.Rows.{Rows}
use Rattle.deck.specs.declared.Table.{Table}
use Rattle.deck.specs.code.Table.{transcript_in, transcript_rows}

-- these transcripts are admitted
abbrev pub Admits : Table → List Rows → Type 0
Admits t [] = Unit {0}
Admits t (r ∷ rs) = (admission (transcript_in t r) ≡ 0) × Admits t rs

abbrev pub AllAdmitted : Table → Type 0
AllAdmitted t = Admits t (transcript_rows t)

Admits-prop : (t : Table) (rs : List Rows) → IsProp (Admits t rs)
Admits-prop t [] = Unit-prop
Admits-prop t (r ∷ rs) = ×_prop (Coded-set coded_ℕ (admission (transcript_in t r)) 0) (Admits-prop t rs)

-- a struct that holds this fact is its other fields alone
pub AllAdmitted-prop : (t : Table) → IsProp (AllAdmitted t)
AllAdmitted-prop t = Admits-prop t (transcript_rows t)

-- a gap of the exons is short
abbrev pub is_short : Transcript → Bool
is_short t = any is_frameshift_gap (gaps (oriented t).exons)

-- a column of sums with the cumulative lengths of the exons, from row k on
abbrev pub with_exons : Oriented → ℕ → List ℕ → List ℕ
with_exons o k sums = stored sums k (cumulative 0 (map size o.exons))

-- and with those of the CDS, if there is one, from row c on
abbrev pub with_cds : Oriented → ℕ → List ℕ → List ℕ
with_cds o c sums = cond o.coding (stored sums c (cumulative o.pad (map size o.segments))) sums

-- the column with the sums of a transcript at row k with bounds at row c
abbrev pub row_sums : Transcript → ℕ → ℕ → List ℕ → List ℕ
row_sums t k c sums = with_cds (oriented t) c (with_exons (oriented t) k sums)

-- a transcript as an entry, and its rows again
abbrev pub entry_of : Rows → Bool → IndexEntry
entry_of r short = record { row = r.row; exons = r.exons; bounds = r.bounds; segments = r.segments; bases = r.bases; short = short }

abbrev pub rows_of : IndexEntry → Rows
rows_of e = record { row = e.row; exons = e.exons; bounds = e.bounds; segments = e.segments; bases = e.bases }

-- behind the last
abbrev pub no_entry : IndexEntry
no_entry = record { row = 0; exons = 0; bounds = 0; segments = 0; bases = 0; short = false }

-- the index with transcript j; its bounds, if it has them, stand behind its exons
unfoldable pub index_row : Table → ℕ → Rows → TableIndex → TableIndex
index_row t j r x =
    let u = transcript_in t r in
    record { count = suc j; entries = set x.entries j (entry_of r (is_short u)); sums = row_sums u r.row r.exons x.sums }

-- with these transcripts, of which the first is transcript j
abbrev pub index_rows : Table → ℕ → List Rows → TableIndex → TableIndex
index_rows t j [] x = x
index_rows t j (r ∷ rs) x = index_rows t (suc j) rs (index_row t j r x)

-- before the first of them
unfoldable pub empty_index : TableIndex
empty_index = record { count = 0; entries = replicate 4096 no_entry; sums = replicate 4096 0 }

-- the entry of the transcript at place k, and its rows
abbrev pub entry_at : TableIndex → ℕ → IndexEntry
entry_at x k = get_or x.entries k no_entry

abbrev pub rows_in : TableIndex → ℕ → Rows
rows_in x k = rows_of (entry_at x k)

-- the index of a table
abbrev pub table_index : Table → TableIndex
table_index t = index_rows t 0 (transcript_rows t) empty_index

-- where the sums of the CDS are read: at the row of its bounds; where there is none, at the transcript's row, whose sum is 0
abbrev pub cds_row : Rows → ℕ
cds_row r = cond (eqb r.bounds r.exons) r.row r.exons
