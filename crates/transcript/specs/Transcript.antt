-- A transcript as it is handed in: its scalars, and its lists in strand order.
use Rattle.std.specs.Prelude.{ℕ, ◌-◌, ◌%◌, Bool, true, false, cond, ◌&&◌, List, [], ◌∷◌, Option, Some, None, length, eqb}
use Rattle.common.specs.Slices.{Slice, Passed}
use Rattle.transcript.specs.declared.TranscriptModel.{TranscriptModel}
use Rattle.transcript.specs.declared.CdsBounds.{CdsBounds}
use Rattle.transcript.specs.declared.Transcript.{Transcript as Lent}
use Rattle.transcript.specs.declared.Exon.{Exon}
use Rattle.transcript.specs.declared.CdsSegment.{CdsSegment}

pub record Transcript : Type 0 where
  pub model : TranscriptModel
  pub exons : List Exon
  pub segments : List CdsSegment
  pub selenocysteine : List ℕ

-- starts and ends, lent as two lists, as one list of exons; the shorter list decides
unfoldable pub exons_of : List ℕ → List ℕ → List Exon
exons_of [] es = []
exons_of (s ∷ ss) [] = []
exons_of (s ∷ ss) (e ∷ es) = record { genomic_start = s; genomic_end = e } ∷ exons_of ss es

-- four lent lists as one list of segments; the shortest list decides
unfoldable pub segments_of : List ℕ → List ℕ → List ℕ → List ℕ → List CdsSegment
segments_of [] is ss es = []
segments_of (p ∷ ps) [] ss es = []
segments_of (p ∷ ps) (i ∷ is) [] es = []
segments_of (p ∷ ps) (i ∷ is) (s ∷ ss) [] = []
segments_of (p ∷ ps) (i ∷ is) (s ∷ ss) (e ∷ es) = record { phase = p; exon_index = i; genomic_start = s; genomic_end = e } ∷ segments_of ps is ss es

-- lists of one thing have one length: starts and ends; phases, exon indexes, starts and ends
abbrev pub even_lengths : ℕ → ℕ → ℕ → ℕ → ℕ → ℕ → Bool
even_lengths starts ends phases indexes firsts lasts = eqb starts ends && (eqb firsts phases && (eqb firsts indexes && eqb firsts lasts))

abbrev pub even_lists : List ℕ → List ℕ → List ℕ → List ℕ → List ℕ → List ℕ → Bool
even_lists starts ends phases indexes segment_starts segment_ends =
    even_lengths (length starts) (length ends) (length phases) (length indexes) (length segment_starts) (length segment_ends)

-- a transcript whose lists are lent apart: exon starts and ends; segment phases, exon indexes, starts and ends; selenocysteine bases.
-- Where lists of one thing differ in length, it has no exons
abbrev pub lent : TranscriptModel → List ℕ → List ℕ → List ℕ → List ℕ → List ℕ → List ℕ → List ℕ → Transcript
lent m starts ends phases indexes segment_starts segment_ends bases = record {
  model = m;
  exons = cond (even_lists starts ends phases indexes segment_starts segment_ends) (exons_of starts ends) [];
  segments = segments_of phases indexes segment_starts segment_ends;
  selenocysteine = bases;
}

-- the transcript whose lists a struct lends
abbrev pub transcript_of : Lent → Transcript
transcript_of t =
    lent
    t.model
    t.exons.starts.now
    t.exons.ends.now
    t.segments.phases.now
    t.segments.exon_indexes.now
    t.segments.bases.starts.now
    t.segments.bases.ends.now
    t.selenocysteine.now

-- the transcript that is given, as a `requires` names it: `lent` of the slices' lists
abbrev pub given : TranscriptModel → Slice → Slice → Slice → Slice → Slice → Slice → Slice → Transcript
given m starts ends phases indexes segment_starts segment_ends bases =
    lent m starts.now ends.now phases.now indexes.now segment_starts.now segment_ends.now bases.now

-- the same as an `ensures` names it: the transcript that was given
abbrev pub was_given : TranscriptModel → Passed → Passed → Passed → Passed → Passed → Passed → Passed → Transcript
was_given m starts ends phases indexes segment_starts segment_ends bases =
    given m starts.entry ends.entry phases.entry indexes.entry segment_starts.entry segment_ends.entry bases.entry

-- the CDS bounds, and 0 where there are none
abbrev pub cds_start : Option CdsBounds → ℕ
cds_start None = 0
cds_start (Some b) = b.cds_genomic_start

abbrev pub cds_end : Option CdsBounds → ℕ
cds_end None = 0
cds_end (Some b) = b.cds_genomic_end

abbrev pub has_bounds : Option CdsBounds → Bool
has_bounds None = false
has_bounds (Some b) = true

abbrev pub is_empty : {A : Type 0} → List A → Bool
is_empty [] = true
is_empty (x ∷ xs) = false

-- the pad: (3 − first phase) mod 3, or 0 without segments
abbrev pub pad_of : List CdsSegment → ℕ
pad_of [] = 0
pad_of (s ∷ ss) = (3 - s.phase) % 3
