-- Reading a deck: its refusal in the order 22, 23, 25, 24, then 1 to 13 in chain order, or its transcripts.
use Rattle.std.specs.Prelude.{ℕ, ◌-◌, ◌/◌, ◌%◌, Bool, cond, not, ◌||◌, List, [], ◌∷◌, map, length, get_or, ltb, eqb, Option, Some, None, Result, Ok, Err}
use Rattle.common.specs.declared.refusal.Refusal.{Refusal}
use Rattle.transcript.specs.declared.Strand.{Strand}
use Rattle.transcript.specs.declared.Strand.TheVariants.{Plus, Minus}
use Rattle.transcript.specs.declared.CdsBounds.{CdsBounds}
use Rattle.transcript.specs.declared.Exon.{Exon}
use Rattle.transcript.specs.declared.CdsSegment.{CdsSegment}
use Rattle.transcript.specs.Transcript.{Transcript}
use Rattle.transcript.specs.Admission.{admission_of}
use Rattle.deck.specs.declared.DeckRefusal.{DeckRefusal}
use Rattle.deck.specs.Refused.{refused_at}
use Rattle.deck.specs.Records.{record_count, mark_of, next_of, half, word, bad_record, lowest}
use Rattle.deck.specs.Walk.{walked_as, Parts, Walk, walked, stopped, walk_deck}

abbrev pub exon_at : List ℕ → ℕ → Exon
exon_at d i = record { genomic_start = word d i 4; genomic_end = word d i 8 }

abbrev pub segment_at : List ℕ → ℕ → CdsSegment
segment_at d i = record { phase = mark_of d i; exon_index = half d i 12; genomic_start = word d i 4; genomic_end = word d i 8 }

-- mark bit 0 minus
abbrev pub strand_of : ℕ → Strand
strand_of mark = cond (eqb (mark % 2) 1) Minus Plus

-- mark bit 1 start complete
abbrev pub start_complete : ℕ → Bool
start_complete mark = eqb (mark / 2 % 2) 1

abbrev pub cds_at : List ℕ → ℕ → Option CdsBounds
cds_at d b = cond (eqb b 0) None (Some (record { cds_genomic_start = word d b 4; cds_genomic_end = word d b 8 }))

-- an exon of a chain, by its place in it
abbrev pub exon_in : List Exon → ℕ → Exon
exon_in xs i = get_or xs i (record { genomic_start = 0; genomic_end = 0 })

-- the tx bounds come from the chain: the outer edges of its first and last exon
abbrev pub tx_bounds : Strand → List Exon → Exon
tx_bounds Plus xs = record { genomic_start = (exon_in xs 0).genomic_start; genomic_end = (exon_in xs (length xs - 1)).genomic_end }
tx_bounds Minus xs = record { genomic_start = (exon_in xs (length xs - 1)).genomic_start; genomic_end = (exon_in xs 0).genomic_end }

-- exon_count and tx bounds come from the chain
unfoldable pub transcript_of : List ℕ → Parts → Transcript
transcript_of d p = record {
  model = record {
    id = word d p.transcript 4;
    chromosome = half d p.transcript 8;
    strand = strand_of (mark_of d p.transcript);
    exon_count = length p.exons;
    tx_start = (tx_bounds (strand_of (mark_of d p.transcript)) (map (exon_at d) p.exons)).genomic_start;
    tx_end = (tx_bounds (strand_of (mark_of d p.transcript)) (map (exon_at d) p.exons)).genomic_end;
    cds = cds_at d p.bounds;
    cds_start_complete = start_complete (mark_of d p.transcript);
  };
  exons = map (exon_at d) p.exons;
  segments = map (segment_at d) p.segments;
  selenocysteine = map (λ i. word d i 4) p.selenocysteine;
}

-- on with what follows an admitted transcript, or its refusal with its record
abbrev pub admitted_then : Result Unit Refusal → ℕ → Result Unit DeckRefusal → Result Unit DeckRefusal
admitted_then (Ok u) i later = later
admitted_then (Err r) i later = Err (record { refusal = r; «record» = i })

-- the first refused transcript in chain order
unfoldable pub admit_all : List ℕ → List Parts → Result Unit DeckRefusal
admit_all d [] = Ok tt
admit_all d (p ∷ ps) = admitted_then (admission_of (transcript_of d p)) p.transcript (admit_all d ps)

-- 22: deck length 0, not a multiple of 16, or over 65,536
abbrev pub bad_length : List ℕ → Bool
bad_length d = eqb (length d) 0 || not (eqb (length d % 16) 0) || ltb 65_536 (length d)

-- the lowest record at fault
abbrev pub first_bad : List ℕ → ℕ
first_bad d = lowest (bad_record d) (record_count d) 0

-- the records by themselves and their links, in the order 22, 23, 25, 24: how many there are besides the head
unfoldable pub structure_of : List ℕ → Result ℕ DeckRefusal
structure_of d =
    cond (bad_length d) (Err (refused_at 22 0))
    (cond (ltb (first_bad d) (record_count d)) (Err (refused_at 23 (first_bad d)))
    (cond (eqb (next_of d 0) 0) (Err (refused_at 25 0))
    (walked_as d (walk_deck d))))

abbrev pub parts_of : Walk → List Parts
parts_of (walked ps reached) = ps
parts_of (stopped i) = []

-- then 1 to 13
abbrev pub admitted : List ℕ → Result ℕ DeckRefusal → Result Unit DeckRefusal
admitted d (Ok n) = admit_all d (parts_of (walk_deck d))
admitted d (Err e) = Err e

unfoldable pub read_deck : List ℕ → Result Unit DeckRefusal
read_deck d = admitted d (structure_of d)

-- the transcripts of an accepted deck, in chain order
abbrev pub deck_transcripts : List ℕ → List Transcript
deck_transcripts d = map (transcript_of d) (parts_of (walk_deck d))
