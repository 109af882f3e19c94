-- The whole answer for a base at a place, before the splice spill.
use Rattle.std.specs.Prelude.{ℕ, ◌+◌, ◌-◌, cond, List, length, Option, Some, None}
use Rattle.common.specs.Text.{byte}
use Rattle.codon.specs.declared.Codon.{Codon}
use Rattle.codon.specs.declared.Codons.{Codons}
use Rattle.codon.specs.declared.AminoAcids.{AminoAcids}
use Rattle.codon.specs.Table.{translate_codon, translate_reference_codon, build_alt_codon}
use Rattle.locate.specs.declared.VariantLocation.{VariantLocation}
use Rattle.transcript.specs.Orient.{Oriented}
use Rattle.locate.specs.Place.{cdna_position}
use Rattle.consequence.specs.declared.Numbered.{Numbered}
use Rattle.consequence.specs.declared.ConsequenceResult.{ConsequenceResult}
use Rattle.consequence.specs.declared.region.Region.{Region}
use Rattle.terms.specs.declared.Consequence.TheVariants.{IncompleteTerminalCodonVariant, CodingSequenceVariant}
use Rattle.terms.specs.Terms.{only, with_term}
use Rattle.consequence.specs.Reading.{is_incomplete_terminal_codon, holds_selenocysteine}
use Rattle.terms.specs.Coding.{coding_term}
use Rattle.consequence.specs.Region.{region_of, region_terms}
use Rattle.consequence.specs.Coding.{is_start_codon, shows_codon, shown_letters}
use Rattle.codon.specs.Display.{change_at}
use Rattle.locate.specs.declared.CdnaPosition.{CdnaPosition}

-- number k of n
abbrev pub nth_of : ℕ → ℕ → Numbered
nth_of k n = record { number = k; total = n }

-- a cDNA position as a plain number
abbrev pub cdna_count : Option CdnaPosition → Option ℕ
cdna_count None = None
cdna_count (Some p) = Some p.0

-- what a coding base's codon gives: CDS position, codon number, codons, letters, terms
pub record Columns : Type 0 where
  pub position : Option ℕ
  pub number : Option ℕ
  pub codons : Option Codons
  pub letters : Option AminoAcids
  pub terms : ℕ

-- a base that is not coding has no codon
abbrev pub no_codon : Columns
no_codon = record { position = None; number = None; codons = None; letters = None; terms = 0 }

-- the columns of an answer, with a codon's
abbrev pub answer_of : VariantLocation → Option Numbered → Option Numbered → Option CdnaPosition → Columns → ℕ → ConsequenceResult
answer_of place exon intron cdna c terms = record {
  location = place;
  exon = exon;
  intron = intron;
  cds_position = c.position;
  cdna_position = cdna;
  protein_start = c.number;
  codons = c.codons;
  amino_acids = c.letters;
  consequences = record { 0 = terms };
}

-- outside the transcript only the place and the term are given
abbrev pub flank_result : VariantLocation → ℕ → ConsequenceResult
flank_result place terms = answer_of place None None None no_codon terms

-- in intron i: its number of all introns
abbrev pub intron_result : Oriented → VariantLocation → ℕ → ℕ → ConsequenceResult
intron_result t place i terms = answer_of place None (Some (nth_of (i + 1) (length t.exons - 1))) None no_codon terms

-- in exon i at position p
abbrev pub exon_result : Oriented → ℕ → VariantLocation → ℕ → Columns → ℕ → ConsequenceResult
exon_result t p place i c terms = answer_of place (Some (nth_of (i + 1) (length t.exons))) None (Some (record { 0 = cdna_position t p })) c terms

-- an unfinished last codon: its own bases as codons, letter X
abbrev pub incomplete_codon : ℕ → ℕ → Codon → Codon → ℕ → Columns
incomplete_codon offset number c altered k = record {
  position = Some (offset + 1);
  number = Some number;
  codons = Some (change_at c altered k);
  letters = Some (AminoAcids.One (byte "X"));
  terms = with_term (only IncompleteTerminalCodonVariant) CodingSequenceVariant;
}

-- a whole codon with its reference letter and its altered letter
abbrev pub whole_codon : Oriented → ℕ → ℕ → Codon → Codon → ℕ → ℕ → ℕ → Columns
whole_codon t offset number c altered k ref alt = record {
  position = Some (offset + 1);
  number = cond (shows_codon t number ref) (Some number) None;
  codons = cond (shows_codon t number ref) (Some (change_at c altered k)) None;
  letters = shown_letters t number ref alt;
  terms = only (coding_term (is_start_codon t number) ref alt);
}

-- codon c of that number in a genetic code, whose base at place k becomes `altered`'s; only the reference codon can read U
abbrev pub read_codon : List ℕ → Oriented → ℕ → ℕ → Codon → Codon → ℕ → Columns
read_codon code t offset number c altered k =
    cond (is_incomplete_terminal_codon t offset)
    (incomplete_codon offset number c altered k)
    (whole_codon t offset number c altered k
    (translate_reference_codon code (holds_selenocysteine t number) c)
    (translate_codon code altered))

-- a codon outside the window is refused before (21)
unfoldable pub codon_columns : List ℕ → Oriented → ℕ → ℕ → ℕ → ℕ → Option Codon → Columns
codon_columns code t offset number k alt (Some c) = read_codon code t offset number c (build_alt_codon c k alt) k
codon_columns code t offset number k alt None = no_codon

-- what the codon of a region gives; `alt` is the coding base put in, and `codon` gives the codon that holds a padded offset
abbrev pub region_columns : List ℕ → Oriented → ℕ → (ℕ → Option Codon) → Region → Columns
region_columns code t alt codon Region.Distal = no_codon
region_columns code t alt codon (Region.Flank c) = no_codon
region_columns code t alt codon (Region.Intron i c m) = no_codon
region_columns code t alt codon (Region.Exon i c m) = no_codon
region_columns code t alt codon (Region.Coding b) =
    codon_columns code t b.base.offset.0 b.base.number b.base.position alt (codon b.base.offset.0)

-- the answer in a region with these columns and terms. Distal is refused before (19)
abbrev pub region_result : Oriented → ℕ → VariantLocation → Region → Columns → ℕ → ConsequenceResult
region_result t p place Region.Distal c terms = flank_result place terms
region_result t p place (Region.Flank term) c terms = flank_result place terms
region_result t p place (Region.Intron i term m) c terms = intron_result t place i terms
region_result t p place (Region.Exon i term m) c terms = exon_result t p place i c terms
region_result t p place (Region.Coding b) c terms = exon_result t p place b.exon c terms

-- the answer in a region, from its codon
abbrev pub codon_result : Oriented → ℕ → VariantLocation → Region → Columns → ConsequenceResult
codon_result t p place region c = region_result t p place region c (region_terms c.terms region)

-- the answer at a place in a genetic code
unfoldable pub place_result : List ℕ → Oriented → ℕ → ℕ → (ℕ → Option Codon) → VariantLocation → ConsequenceResult
place_result code t p alt codon place =
    codon_result t p place (region_of t.coding place) (region_columns code t alt codon (region_of t.coding place))
