-- What a deck contains: its transcripts in chain order, each as lists of numbers.
use Rattle.common.specs.Slices.{PassedLent}
use Rattle.std.specs.Prelude.{ℕ, cond, List, [], ◌∷◌, map, length, take, drop, ltb, ◌≡◌, Result, Ok, Err}
use Rattle.common.specs.Flag.{flag}
use Rattle.common.specs.Lists.{concat}
use Rattle.common.specs.Stored.{stored}
use Rattle.transcript.specs.declared.Strand.{Strand}
use Rattle.transcript.specs.declared.Strand.TheVariants.{Plus, Minus}
use Rattle.transcript.specs.declared.TranscriptModel.{TranscriptModel}
use Rattle.transcript.specs.Transcript.{Transcript, cds_start, cds_end, has_bounds}
use Rattle.deck.specs.declared.DeckRefusal.{DeckRefusal}
use Rattle.deck.specs.Refused.{refused_at}
use Rattle.deck.specs.Deck.{read_deck, deck_transcripts}

-- a refused deck gives its refusal, whatever is asked
abbrev pub content_by : Result Unit DeckRefusal → Result ℕ DeckRefusal → Result ℕ DeckRefusal
content_by (Ok x) c = c
content_by (Err e) c = Err e

abbrev pub held_by : Result Unit DeckRefusal → List Transcript → List Transcript
held_by (Ok x) ts = ts
held_by (Err e) ts = []

-- the transcripts of an accepted deck, none of a refused one
abbrev pub held : List ℕ → List Transcript
held d = held_by (read_deck d) (deck_transcripts d)

-- how many there are
abbrev pub deck_content : List ℕ → Result ℕ DeckRefusal
deck_content d = content_by (read_deck d) (Ok (length (deck_transcripts d)))

-- their ids
abbrev pub id_of : Transcript → ℕ
id_of t = t.model.id

abbrev pub deck_ids : List ℕ → List ℕ
deck_ids d = map id_of (held d)

-- the transcript at a place in chain order, counted from 0; 25 where none stands there
abbrev pub placed : List Transcript → ℕ → Result ℕ DeckRefusal
placed ts k = cond (ltb k (length ts)) (Ok (length ts)) (Err (refused_at 25 0))

abbrev pub place_content : List ℕ → ℕ → Result ℕ DeckRefusal
place_content d k = content_by (read_deck d) (placed (deck_transcripts d) k)

-- that transcript, a list of one, or of none
abbrev pub chosen : List ℕ → ℕ → List Transcript
chosen d k = take 1 (drop k (held d))

-- its scalars: id, chromosome, strand, exon count, transcript bounds, whether it has a CDS, CDS bounds, whether its start is complete,
-- how many segments and selenocysteine bases it has
abbrev pub minus_flag : Strand → ℕ
minus_flag Plus = 0
minus_flag Minus = 1

abbrev pub scalar_words : TranscriptModel → ℕ → ℕ → List ℕ
scalar_words m segments bases =
    m.id ∷ m.chromosome ∷ minus_flag m.strand ∷ m.exon_count ∷ m.tx_start ∷ m.tx_end ∷ flag (has_bounds m.cds) ∷ cds_start m.cds
    ∷ cds_end m.cds ∷ flag m.cds_start_complete ∷ segments ∷ bases ∷ []

abbrev pub scalars_of : Transcript → List ℕ
scalars_of t = scalar_words t.model (length t.segments) (length t.selenocysteine)

-- and its lists
abbrev pub exon_starts : Transcript → List ℕ
exon_starts t = map (λ x. x.genomic_start) t.exons

abbrev pub exon_ends : Transcript → List ℕ
exon_ends t = map (λ x. x.genomic_end) t.exons

abbrev pub segment_phases : Transcript → List ℕ
segment_phases t = map (λ s. s.phase) t.segments

abbrev pub segment_exons : Transcript → List ℕ
segment_exons t = map (λ s. s.exon_index) t.segments

abbrev pub segment_starts : Transcript → List ℕ
segment_starts t = map (λ s. s.genomic_start) t.segments

abbrev pub segment_ends : Transcript → List ℕ
segment_ends t = map (λ s. s.genomic_end) t.segments

abbrev pub bases_of : Transcript → List ℕ
bases_of t = t.selenocysteine

-- numbers stand at the front of a lent list, whose rest stays
abbrev pub Front : List ℕ → PassedLent → Type 0
Front numbers out = out.exit.now ≡ stored out.entry.now 0 numbers

-- a list of the chosen transcript stands there; without one nothing changes
abbrev pub Put : List Transcript → (Transcript → List ℕ) → PassedLent → Type 0
Put ts list out = Front (concat (map list ts)) out

-- all of it: scalars; exon starts and ends; segment phases, exon indexes, starts and ends; selenocysteine bases
abbrev pub Stored : List Transcript → PassedLent → PassedLent → PassedLent → PassedLent → PassedLent → PassedLent → PassedLent → PassedLent → Type 0
Stored ts scalars starts ends phases indexes firsts lasts bases =
    Put ts scalars_of scalars × Put ts exon_starts starts × Put ts exon_ends ends × Put ts segment_phases phases × Put ts segment_exons indexes
    × Put ts segment_starts firsts × Put ts segment_ends lasts × Put ts bases_of bases
