-- The single-base call, with its refusals: 1 to 13, then 15, 14, 16, 17, 18, 19, 21.
use Rattle.std.specs.Prelude.{ℕ, ◌+◌, Bool, true, false, cond, not, ◌&&◌, ◌||◌, List, eqb, Option, Some, None}
use Rattle.common.specs.Refuse.{refuse, or_else}
use Rattle.common.specs.Refusal.{outcome}
use Rattle.codon.specs.Bases.{is_base}
use Rattle.codon.specs.declared.GeneticCode.{GeneticCode}
use Rattle.codon.specs.Table.{code_table}
use Rattle.footprint.specs.declared.SpliceSpill.{SpliceSpill}
use Rattle.locate.specs.declared.VariantLocation.{VariantLocation}
use Rattle.footprint.specs.declared.Ranges.{Ranges}
use Rattle.transcript.specs.Limits.{mitochondrial}
use Rattle.transcript.specs.Transcript.{Transcript}
use Rattle.transcript.specs.Orient.{interval, orient_base, oriented}
use Rattle.locate.specs.Place.{locate}
use Rattle.locate.specs.PlaceKind.{is_distal, is_cds_exon, place_offset}
use Rattle.footprint.specs.ShortIntron.{exonic_splice_spill}
use Rattle.transcript.specs.Admission.{admission}
use Rattle.transcript.specs.Question.{bad_interval, is_elsewhere, query_refusal}
use Rattle.consequence.specs.declared.Call.{Call}
use Rattle.consequence.specs.Called.{Called}
use Rattle.consequence.specs.declared.ConsequenceResult.{ConsequenceResult}
use Rattle.terms.specs.Terms.{spill_terms}
use Rattle.consequence.specs.Window.{Window, in_window, byte_at, coding_byte, coding_base}
use Rattle.consequence.specs.Reading.{fetch_codon}
use Rattle.consequence.specs.Answer.{place_result}
use Rattle.codon.specs.declared.Codon.{Codon}

abbrev pub add_splice_spill : SpliceSpill → ConsequenceResult → ConsequenceResult
add_splice_spill s a = record {
  location = a.location;
  exon = a.exon;
  intron = a.intron;
  cds_position = a.cds_position;
  cdna_position = a.cdna_position;
  protein_start = a.protein_start;
  codons = a.codons;
  amino_acids = a.amino_acids;
  consequences = record { 0 = spill_terms s.donor s.acceptor a.consequences.0 };
}

-- the genetic code of a chromosome: the vertebrate mitochondrial one of chrM, else the standard one
abbrev pub code_of : ℕ → GeneticCode
code_of chromosome = cond (eqb chromosome mitochondrial) GeneticCode.VertebrateMitochondrial GeneticCode.Standard

-- the letters by which a transcript's codons are read
abbrev pub call_table : Transcript → List ℕ
call_table t = code_table (code_of t.model.chromosome)

-- the place of a call
abbrev pub call_place : Ranges → Transcript → Call → VariantLocation
call_place r t q = locate r (oriented t) (orient_base t.model.strand q.position)

-- the codon that holds a padded offset, read through the window
abbrev pub call_codon : Transcript → Window → ℕ → Option Codon
call_codon t w k = fetch_codon (oriented t) (coding_base t.model.strand w) k

abbrev pub is_outside : Option Codon → Bool
is_outside (Some c) = false
is_outside None = true

-- the place is coding and a base of its codon lies outside the window
abbrev pub lacks_codon : (ℕ → Option Codon) → VariantLocation → Bool
lacks_codon codon place = is_cds_exon place && is_outside (codon (place_offset place))

-- alt not A, C, G, T, or equal to ref
abbrev pub bad_alt : Call → Bool
bad_alt q = not (is_base q.alt_base) || eqb q.alt_base q.ref_base

-- the position outside the window, or ref not the byte there
abbrev pub window_refusal : Window → Call → ℕ
window_refusal w q = refuse (not (in_window w q.position)) 17 (refuse (not (eqb q.ref_base (byte_at w q.position))) 18 0)

-- the refusals that come before the place is known
unfoldable pub opening_refusal : Transcript → Window → Call → ℕ
opening_refusal t w q =
    or_else (admission t)
    (query_refusal (bad_interval q.position (q.position + 1)) (is_elsewhere t q.chromosome || is_elsewhere t w.chromosome)
    (refuse (bad_alt q) 16
    (window_refusal w q)))

-- the refusals of a place: distal, or coding with its codon not all in the window
abbrev pub closing_refusal : Bool → Bool → ℕ
closing_refusal distal lacks = refuse distal 19 (refuse lacks 21 0)

-- the number of a call's refusal, 0 where it is answered
unfoldable pub call_refusal : Ranges → Transcript → Window → Call → ℕ
call_refusal r t w q = or_else (opening_refusal t w q) (closing_refusal (is_distal (call_place r t q)) (lacks_codon (call_codon t w) (call_place r t q)))

-- the answer where nothing refuses the call
unfoldable pub call_result : Ranges → Transcript → Window → Call → ConsequenceResult
call_result r t w q =
    add_splice_spill
    (exonic_splice_spill (oriented t) (interval (orient_base t.model.strand q.position) (orient_base t.model.strand q.position + 1)))
    (place_result (call_table t) (oriented t) (orient_base t.model.strand q.position) (coding_byte t.model.strand q.alt_base) (call_codon t w) (call_place r t q))

-- the whole answer to a call
unfoldable pub annotate_snv : Ranges → Transcript → Window → Call → Called
annotate_snv r t w q = outcome (call_refusal r t w q) (call_result r t w q)
