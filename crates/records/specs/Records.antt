-- A transcript whose exons are lent as a list of records.
use Rattle.std.specs.Prelude.{ℕ, Bool, cond, ◌&&◌, List, [], length, eqb}
use Rattle.transcript.specs.declared.TranscriptModel.{TranscriptModel}
use Rattle.transcript.specs.declared.Exon.{Exon}
use Rattle.transcript.specs.declared.CdsSegments.{CdsSegments}
use Rattle.transcript.specs.Transcript.{Transcript, segments_of}

-- phases, exon indexes, starts and ends have one length
abbrev pub even_segments : List ℕ → List ℕ → List ℕ → List ℕ → Bool
even_segments phases indexes starts ends =
    eqb (length starts) (length phases) && (eqb (length starts) (length indexes) && eqb (length starts) (length ends))

-- the exons are the list itself; segment phases, exon indexes, starts and ends are lent apart. Where these differ in length, it has no exons
abbrev pub lent_records : TranscriptModel → List Exon → List ℕ → List ℕ → List ℕ → List ℕ → List ℕ → Transcript
lent_records m xs phases indexes starts ends bases = record {
  model = m;
  exons = cond (even_segments phases indexes starts ends) xs [];
  segments = segments_of phases indexes starts ends;
  selenocysteine = bases;
}

-- the same of segments that a struct lends
abbrev pub records_lent : TranscriptModel → List Exon → CdsSegments → List ℕ → Transcript
records_lent m xs g bases = lent_records m xs g.phases.now g.exon_indexes.now g.bases.starts.now g.bases.ends.now bases
