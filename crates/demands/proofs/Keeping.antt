-- Demand 3: a longer transcript keeps every answer of a shorter one for bases inside the shorter.
use Prim.Native.Nat.{ℕ, ◌+◌, ◌≤◌, ◌<◌}
use mathlib.Core.Path.{◌≡◌, ◌∙◌, ap}
use mathlib.Core.Bool.{true}
use lib.Dec.{leb, ltb}
use borrow.Author.Tests.{leb-true, ltb-true}
use Rattle.common.proofs.TestParts.{and_true}
use Rattle.transcript.specs.declared.Strand.{Strand}
use Rattle.codon.specs.Table.{code_table}
use Rattle.footprint.specs.declared.SpliceSpill.{SpliceSpill}
use Rattle.locate.specs.declared.VariantLocation.{VariantLocation}
use Rattle.footprint.specs.declared.Ranges.{Ranges}
use Rattle.transcript.specs.Transcript.{Transcript}
use Rattle.transcript.specs.Orient.{interval, orient_base, oriented}
use Rattle.transcript.specs.Bases.{first_start, last_end}
use Rattle.transcript.specs.Admission.{Admitted}
use Rattle.locate.specs.Place.{locate}
use Rattle.footprint.specs.ShortIntron.{exonic_splice_spill}
use Rattle.transcript.specs.Question.{question_refusal}
use Rattle.locate.specs.Query.{locate_variant}
use Rattle.transcript.proofs.Admitted.{facts}
use Rattle.transcript.proofs.Between.{between_edges}
use Rattle.consequence.specs.declared.Call.{Call}
use Rattle.consequence.specs.Window.{Window, coding_byte, coding_base}
use Rattle.consequence.specs.Reading.{fetch_codon}
use Rattle.consequence.specs.Answer.{place_result}
use Rattle.consequence.specs.Call.{code_of, call_table, add_splice_spill, call_place, call_codon, opening_refusal, call_refusal, call_result, annotate_snv}
use Rattle.demands.specs.Longer.{Longer, inside_transcript}
use Rattle.demands.specs.Carry.{carry_place, carry_result, carry_located, carry_called}
use Rattle.demands.specs.claims.Demands.{added, near_outer_end, call_at, LongerKeeps}
use Rattle.demands.proofs.Carrying.{kind_carry, offset_carry, cond_located, cond_called}
use Rattle.demands.proofs.Around.{around_length, around_count}
use Rattle.demands.proofs.Gaps.{around_spill}
use Rattle.demands.proofs.Alike.{alike}
use Rattle.demands.proofs.Marking.{near_outer}
use Rattle.demands.proofs.Placing.{locate_carry}
use Rattle.demands.proofs.Codons.{same_codon}
use Rattle.demands.proofs.Answering.{result_carry}
use Rattle.demands.proofs.Gaining.{place_mark_kept, call_mark_kept, call_terms_kept}

module _ (r : Ranges) (S L : Transcript) (x : Longer S L) (hS : Admitted S) (hL : Admitted L) (p : ℕ) (inside : inside_transcript S p ≡ true) where
  edges : (first_start (oriented S).exons ≤ orient_base S.model.strand p) × (orient_base S.model.strand p < last_end (oriented S).exons)
  edges =
      let b = and_true (leb S.model.tx_start p) (ltb p S.model.tx_end) inside in
      between_edges S (facts S hS) p (leb-true S.model.tx_start p b.0) (ltb-true p S.model.tx_end b.1)

  same_place : locate r (oriented L) (orient_base L.model.strand p) ≡ carry_place (added S L x p) (locate r (oriented S) (orient_base S.model.strand p))
  same_place =
      ap (λ (σ : Strand). locate r (oriented L) (orient_base σ p)) x.strand
      ∙ locate_carry (oriented S) (oriented L) (alike S L x hS hL) (orient_base S.model.strand p) edges.0 edges.1 r

  located : (chromosome e : ℕ) → locate_variant r L chromosome p e ≡ carry_located (added S L x p) (locate_variant r S chromosome p e)
  unfolding locate_variant question_refusal
  located chromosome e = rw (same_place, hS, hL, x.chromosome) (simp cond_located)

module _ (r : Ranges) (S L : Transcript) (x : Longer S L) (hS : Admitted S) (hL : Admitted L) (w : Window) (q : Call) (inside : inside_transcript S q.position ≡ true) where
  same_call_codon : (k : ℕ) → call_codon L w k ≡ call_codon S w k
  same_call_codon k =
      ap (λ (σ : Strand). fetch_codon (oriented L) (coding_base σ w) k) x.strand
      ∙ same_codon (oriented S) (oriented L) (alike S L x hS hL) (coding_base S.model.strand w) k

  same_refusal : call_refusal r L w q ≡ call_refusal r S w q
  unfolding call_refusal opening_refusal question_refusal
  same_refusal =
      rw (same_place r S L x hS hL q.position inside, kind_carry, offset_carry, same_call_codon, hS, hL, x.chromosome)

  same_result : call_result r L w q ≡ carry_result (added S L x q.position) (call_result r S w q)
  unfolding call_result
  same_result =
      let p = orient_base S.model.strand q.position in
      let a = alike S L x hS hL in
      let e = edges r S L x hS hL q.position inside in
      let alt = coding_byte S.model.strand q.alt_base in
      let s = exonic_splice_spill (oriented S) (interval p (p + 1)) in
      ap (λ (n : ℕ). add_splice_spill (exonic_splice_spill (oriented L) (interval (orient_base L.model.strand q.position) (orient_base L.model.strand q.position + 1)))
      (place_result (code_table (code_of n)) (oriented L) (orient_base L.model.strand q.position) (coding_byte L.model.strand q.alt_base) (call_codon L w) (call_place r L q))) x.chromosome
      ∙ ap (λ (σ : Strand). add_splice_spill (exonic_splice_spill (oriented L) (interval (orient_base σ q.position) (orient_base σ q.position + 1)))
      (place_result (call_table S) (oriented L) (orient_base σ q.position) (coding_byte σ q.alt_base) (call_codon L w) (call_place r L q))) x.strand
      ∙ ap (λ (s : SpliceSpill). add_splice_spill s (place_result (call_table S) (oriented L) p alt (call_codon L w) (call_place r L q))) (around_spill (oriented S) (oriented L) (interval p (p + 1)) a.exons)
      ∙ ap (λ (v : VariantLocation). add_splice_spill s (place_result (call_table S) (oriented L) p alt (call_codon L w) v)) (same_place r S L x hS hL q.position inside)
      ∙ result_carry (oriented S) (oriented L) a (added S L x q.position) s p a.exons.some
      (around_length (oriented S).exons (oriented L).exons a.exons) (around_count (oriented S).exons (oriented L).exons a.exons p e.0 e.1)
      (call_table S) alt (call_codon L w) (call_codon S w) same_call_codon (call_place r S q)

  called : annotate_snv r L w q ≡ carry_called (added S L x q.position) (annotate_snv r S w q)
  unfolding annotate_snv
  called = rw (same_refusal, same_result) (simp cond_called)

pub longer_keeps : LongerKeeps
longer_keeps r S L x hS hL w chromosome p e ref alt inside =
    let q = call_at chromosome p ref alt in
    let a = added S L x p in
    let near = near_outer_end S L x p in
    let n = near_outer x.before x.after x.begin x.finish (first_start (oriented S).exons) (last_end (oriented S).exons) (orient_base S.model.strand p) x.begins x.ends in
    let place = located r S L x hS hL p inside chromosome e in
    let call = called r S L x hS hL w q inside in
    record {
      place = place;
      call = call;
      near = n;
      mark = place_mark_kept a near n (locate_variant r S chromosome p e) (locate_variant r L chromosome p e) place;
      mark_of_call = call_mark_kept a near n (annotate_snv r S w q) (annotate_snv r L w q) call;
      terms = call_terms_kept a near n (annotate_snv r S w q) (annotate_snv r L w q) call;
    }
