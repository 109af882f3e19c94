-- The premises of demand 3 are met: the pairs of each strand, computed.
use Prim.Native.Nat.{ℕ}
use mathlib.Core.Path.{refl}
use mathlib.Core.List.{[], ◌∷◌}
use native.Mathlib.Omega.{arith}
use Rattle.codon.specs.Bases.{base_number}
use Rattle.transcript.specs.declared.Strand.TheVariants.{Plus, Minus}
use Rattle.transcript.specs.Transcript.{exons_of, segments_of}
use Rattle.transcript.specs.Orient.{orient, oriented}
use Rattle.transcript.specs.Bases.{bases_in, end_after, gaps_after}
use Rattle.transcript.specs.Cuts.{cuts, same_cuts}
use Rattle.transcript.specs.Admission.{bad_counts, bad_coordinates, ascending, index_fault, admission}
use Rattle.transcript.specs.Question.{question_refusal}
use Rattle.footprint.specs.ShortIntron.{exonic_splice_spill}
use Rattle.locate.specs.Find.{find_after, find_exon_or_intron}
use Rattle.locate.specs.Place.{interval_index, exonic, locate}
use Rattle.consequence.specs.Answer.{place_result}
use Rattle.consequence.specs.Call.{opening_refusal, call_refusal, call_result, annotate_snv}
use Rattle.terms.specs.Terms.{with_term, without_term, spill_terms}
use Rattle.demands.specs.Longer.{end_at_from, spaced_up_to, spaced_from, Longer}
use Rattle.demands.specs.claims.Pairs.{shorter, longer, Pairs}

plus_longer : (n : ℕ) → Longer (shorter n Plus) (longer n Plus)
unfolding exons_of segments_of oriented end_after end_at_from spaced_up_to spaced_from
plus_longer n = record {
  before = orient Plus 50 80 ∷ [];
  after = orient Plus 215 230 ∷ [];
  begin = (orient Plus 95 130).start;
  finish = (orient Plus 160 190).end;
  exons = refl;
  begins = omega arith;
  ends = omega arith;
  spaced5 = refl;
  spaced3 = refl;
  chromosome = refl;
  strand = refl;
  cds = refl;
  phases = refl;
  start_mark = refl;
  selenocysteine = λ b. refl;
}

minus_longer : (n : ℕ) → Longer (shorter n Minus) (longer n Minus)
unfolding exons_of segments_of oriented end_after end_at_from spaced_up_to spaced_from
minus_longer n = record {
  before = orient Minus 215 230 ∷ [];
  after = orient Minus 50 80 ∷ [];
  begin = (orient Minus 160 195).start;
  finish = (orient Minus 100 130).end;
  exons = refl;
  begins = omega arith;
  ends = omega arith;
  spaced5 = refl;
  spaced3 = refl;
  chromosome = refl;
  strand = refl;
  cds = refl;
  phases = refl;
  start_mark = refl;
  selenocysteine = λ b. refl;
}

pub pairs : Pairs
unfolding exons_of segments_of oriented bad_counts bad_coordinates ascending index_fault cuts same_cuts admission end_after bases_in find_after find_exon_or_intron interval_index exonic locate gaps_after exonic_splice_spill base_number question_refusal opening_refusal call_refusal call_result place_result annotate_snv spill_terms with_term without_term plus_longer minus_longer
pairs Plus = (
  record { admitted_shorter = refl; admitted_longer = refl; is_longer = plus_longer 1; before = refl; after = refl; inside = refl; near = refl; not_near = refl; shorter_terms = refl; longer_terms = refl },
  record { admitted_shorter = refl; admitted_longer = refl; is_longer = plus_longer 25; before = refl; after = refl; inside = refl; near = refl; not_near = refl; shorter_terms = refl; longer_terms = refl },
)
pairs Minus = (
  record { admitted_shorter = refl; admitted_longer = refl; is_longer = minus_longer 1; before = refl; after = refl; inside = refl; near = refl; not_near = refl; shorter_terms = refl; longer_terms = refl },
  record { admitted_shorter = refl; admitted_longer = refl; is_longer = minus_longer 25; before = refl; after = refl; inside = refl; near = refl; not_near = refl; shorter_terms = refl; longer_terms = refl },
)
