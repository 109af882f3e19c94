-- The table of a deck: its records in the order of the walk. Each transcript stands as rows one behind the other: the transcript, its
-- exons, its bounds if it has them, its segments, its selenocysteine bases.
use Rattle.std.specs.Prelude.{ℕ, zero, suc, ◌+◌, ◌-◌, min, ◌≡◌, ◌≤◌, ◌<◌, Bool, cond, not, ◌&&◌, List, [], ◌∷◌, map, length, get_or, take, drop, replicate, ltb, eqb, Option, Some, None, Result, Ok, Err}
use Rattle.common.specs.Stored.{filled}
use Rattle.transcript.specs.declared.CdsBounds.{CdsBounds}
use Rattle.transcript.specs.declared.Exon.{Exon}
use Rattle.transcript.specs.declared.TranscriptModel.{TranscriptModel}
use Rattle.transcript.specs.Transcript.{Transcript, exons_of, lent}
use Rattle.transcript.specs.Admission.{admission_of}
use Rattle.deck.specs.declared.DeckRefusal.{DeckRefusal}
use Rattle.deck.specs.declared.Table.{Table}
use Rattle.deck.specs.declared.rows.Rows.{Rows}
use Rattle.deck.specs.declared.transcript_rows.TranscriptRows.{TranscriptRows}
use Rattle.deck.specs.Records.{lowest, kind_of, mark_of, half, word, transcript_kind, bounds_kind, exon_kind, segment_kind, selenocysteine_kind}
use Rattle.deck.specs.Walk.{walk_deck}
use Rattle.deck.specs.code.Order.{order_of}
use Rattle.deck.specs.Deck.{strand_of, start_complete, tx_bounds, admitted_then, structure_of}

-- a column: one field of the records given, then zeros
abbrev pub column : (ℕ → ℕ) → List ℕ → List ℕ
column field records = filled 4096 (map field records)

-- bytes 8..10 of a transcript, its chromosome; bytes 12..14 of any other record, a segment's exon index
abbrev pub number_of : List ℕ → ℕ → ℕ
number_of d i = cond (eqb (kind_of d i) transcript_kind) (half d i 8) (half d i 12)

-- the records given as a table
abbrev pub table_of : List ℕ → List ℕ → Table
table_of d records = record {
  kinds = column (kind_of d) records;
  marks = column (mark_of d) records;
  ids = column (λ i. word d i 4) records;
  numbers = column (number_of d) records;
  starts = column (λ i. word d i 4) records;
  ends = column (λ i. word d i 8) records;
}

abbrev pub empty_table : Table
empty_table = record {
  kinds = replicate 4096 0;
  marks = replicate 4096 0;
  ids = replicate 4096 0;
  numbers = replicate 4096 0;
  starts = replicate 4096 0;
  ends = replicate 4096 0;
}

-- a record of a kind stands at row i
abbrev pub is_kind : List ℕ → ℕ → ℕ → Bool
is_kind kinds kind i = ltb i 4096 && eqb (get_or kinds i 0) kind

-- the row behind those of a kind, from a row on
abbrev pub run_end : List ℕ → ℕ → ℕ → ℕ
run_end kinds kind from = lowest (λ i. not (eqb (get_or kinds i 0) kind)) (4096 - from) from

-- the row behind the bounds that may stand at a row
abbrev pub bounds_end : List ℕ → ℕ → ℕ
bounds_end kinds at = cond (is_kind kinds bounds_kind at) (at + 1) at

-- the transcript at row k: where its exons, bounds, segments and selenocysteine bases end
unfoldable pub rows_at : List ℕ → ℕ → Rows
rows_at kinds k =
    let exons = run_end kinds exon_kind (k + 1) in
    let bounds = bounds_end kinds exons in
    let segments = run_end kinds segment_kind bounds in
    record { row = k; exons = exons; bounds = bounds; segments = segments; bases = run_end kinds selenocysteine_kind segments }

-- the elements from one row up to another
abbrev pub part : {A : Type 0} → ℕ → ℕ → List A → List A
part from to l = take (to - from) (drop from l)

-- the exons' part of a column, and how many they are
abbrev pub IsExonPart : Rows → List ℕ → List ℕ → Type 0
IsExonPart r column exons = (exons ≡ part (r.row + 1) r.exons column) × (length exons ≡ min r.exons 4096 - (r.row + 1))

-- rows in their order, inside the table
abbrev pub InOrder : Rows → Type 0
InOrder r = (r.row < r.exons) × (r.exons ≤ r.bounds) × (r.bounds ≤ r.segments) × (r.segments ≤ r.bases) × (r.bases ≤ 4096)

-- the bounds behind the exons, if any stand there
abbrev pub bounds_between : List ℕ → List ℕ → ℕ → ℕ → Option CdsBounds
bounds_between starts ends exons bounds = cond (eqb bounds exons) None (Some (record { cds_genomic_start = get_or starts exons 0; cds_genomic_end = get_or ends exons 0 }))

-- the exons of the transcript at its rows
abbrev pub exons_in : Table → Rows → List Exon
exons_in t r = exons_of (part (r.row + 1) r.exons t.starts) (part (r.row + 1) r.exons t.ends)

-- its scalars
unfoldable pub model_in : Table → Rows → TranscriptModel
model_in t r = record {
  id = get_or t.ids r.row 0;
  chromosome = get_or t.numbers r.row 0;
  strand = strand_of (get_or t.marks r.row 0);
  exon_count = length (part (r.row + 1) r.exons t.starts);
  tx_start = (tx_bounds (strand_of (get_or t.marks r.row 0)) (exons_in t r)).genomic_start;
  tx_end = (tx_bounds (strand_of (get_or t.marks r.row 0)) (exons_in t r)).genomic_end;
  cds = bounds_between t.starts t.ends r.exons r.bounds;
  cds_start_complete = start_complete (get_or t.marks r.row 0);
}

-- the transcript at its rows
unfoldable pub transcript_in : Table → Rows → Transcript
transcript_in t r =
    lent (model_in t r) (part (r.row + 1) r.exons t.starts) (part (r.row + 1) r.exons t.ends)
    (part r.bounds r.segments t.marks) (part r.bounds r.segments t.numbers) (part r.bounds r.segments t.starts)
    (part r.bounds r.segments t.ends) (part r.segments r.bases t.starts)

-- the rows of the transcript at row k, if one stands there
abbrev pub transcript_rows_at : List ℕ → ℕ → Option Rows
transcript_rows_at kinds k = cond (is_kind kinds transcript_kind k) (Some (rows_at kinds k)) None

-- transcripts one behind the other, from row k on; no more than n of them
unfoldable pub rows_from : ℕ → List ℕ → ℕ → List Rows
rows_from zero kinds k = []
rows_from (suc n) kinds k = cond (is_kind kinds transcript_kind k) (rows_at kinds k ∷ rows_from n kinds (rows_at kinds k).bases) []

-- no more than 4096 transcripts stand in a table
abbrev pub rows_onward : List ℕ → ℕ → List Rows
rows_onward kinds k = rows_from (4096 - k) kinds k

abbrev pub transcript_rows : Table → List Rows
transcript_rows t = rows_onward t.kinds 0

-- what an iterator still yields
abbrev pub rows_left : TranscriptRows → List Rows
rows_left s = rows_onward s.table.now.kinds s.row

-- the transcripts of a table
abbrev pub table_transcripts : Table → List Transcript
table_transcripts t = map (transcript_in t) (transcript_rows t)

-- the first refused of these transcripts, with its record
unfoldable pub admit_rows : List ℕ → Table → List Rows → Result Unit DeckRefusal
admit_rows records t [] = Ok tt
admit_rows records t (r ∷ rs) = admitted_then (admission_of (transcript_in t r)) (get_or records r.row 0) (admit_rows records t rs)

abbrev pub admit_table : List ℕ → Table → Result Unit DeckRefusal
admit_table records t = admit_rows records t (transcript_rows t)

-- the table of a deck whose records and links are sound; of any other, zeros
abbrev pub table_by : List ℕ → Result ℕ DeckRefusal → Table
table_by d (Ok n) = table_of d (order_of (walk_deck d))
table_by d (Err e) = empty_table

unfoldable pub deck_table : List ℕ → Table
deck_table d = table_by d (structure_of d)
