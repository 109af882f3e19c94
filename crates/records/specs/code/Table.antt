-- The table that the code makes of exon records.
use Rattle.std.specs.Prelude.{ℕ, ◌≤◌, ◌≡◌, List, map, length, take, Result, Ok, Err}
use Rattle.common.specs.declared.refusal.Refusal.{Refusal}
use Rattle.transcript.specs.declared.Exon.{Exon}
use Rattle.transcript.specs.declared.TranscriptModel.{TranscriptModel}
use Rattle.transcript.specs.declared.CdsSegments.{CdsSegments}
use Rattle.transcript.specs.declared.Transcript.{Transcript as Lent}
use Rattle.transcript.specs.Transcript.{transcript_of}
use Rattle.transcript.specs.Admission.{admission}
use Rattle.records.specs.Records.{records_lent}
use Rattle.records.specs.declared.ExonTable.{ExonTable}

abbrev pub exon_starts_of : List Exon → List ℕ
exon_starts_of xs = map (λ (x : Exon). x.genomic_start) xs

abbrev pub exon_ends_of : List Exon → List ℕ
exon_ends_of xs = map (λ (x : Exon). x.genomic_end) xs

-- the number of the records and, up to 512, their starts and ends in front
pub record Tabled (xs : List Exon) (t : ExonTable) : Type 0 where
  pub counted : t.count ≡ length xs
  pub starting : length xs ≤ 512 → take (length xs) t.starts ≡ exon_starts_of xs
  pub ending : length xs ≤ 512 → take (length xs) t.ends ≡ exon_ends_of xs

-- the transcript that is lent is that of whatever records the table was made of, and where none is, these are refused: refusal 1
abbrev pub LentOn : TranscriptModel → ExonTable → CdsSegments → List ℕ → Result Lent Refusal → Type 0
LentOn m table segments bases (Ok t) = (xs : List Exon) → Tabled xs table → transcript_of t ≡ records_lent m xs segments bases
LentOn m table segments bases (Err r) =
    (r ≡ Refusal.Counts) × ((xs : List Exon) → Tabled xs table → 1 ≡ admission (records_lent m xs segments bases))
