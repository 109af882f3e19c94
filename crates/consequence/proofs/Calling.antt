-- The whole answer to a call, from its parts.
-- Assumes nothing.
use Prim.Native.Nat.{ℕ, ◌≤◌}
use mathlib.Core.Path.{◌≡◌, sym, ◌∙◌, ap}
use lib.Dec.{eqb}
use Rattle.transcript.specs.Limits.{top}
use Rattle.transcript.specs.Transcript.{Transcript}
use Rattle.transcript.specs.Orient.{orient_base, oriented}
use Rattle.transcript.specs.Admission.{admission}
use Rattle.transcript.proofs.Asking.{base_low}
use Rattle.std.specs.Prelude.{Result, Ok, Err}
use Rattle.common.specs.declared.refusal.Refusal.{Refusal}
use Rattle.common.specs.Refusal.{outcome}
use Rattle.common.proofs.Outcome.{passed_first, was_answered}
use Rattle.common.proofs.TestParts.{on_test}
use Rattle.footprint.specs.declared.SpliceSpill.{SpliceSpill}
use Rattle.footprint.specs.declared.Ranges.{Ranges}
use Rattle.locate.specs.declared.VariantLocation.{VariantLocation}
use Rattle.locate.specs.Place.{locate}
use Rattle.locate.specs.PlaceKind.{is_distal}
use Rattle.consequence.specs.declared.Call.{Call}
use Rattle.consequence.specs.Called.{Called}
use Rattle.consequence.specs.declared.ConsequenceResult.{ConsequenceResult}
use Rattle.consequence.specs.Window.{Window, coding_byte}
use Rattle.consequence.specs.Answer.{place_result}
use Rattle.consequence.specs.Call.{call_table, add_splice_spill, call_place, call_codon, lacks_codon, opening_refusal, closing_refusal, call_refusal, call_result, annotate_snv}
use Rattle.consequence.specs.code.AtPlace.{place_called, spill_at, spilled}
use Rattle.consequence.proofs.Refusals.{opening_within}

pub spilled_outcome : (s : SpliceSpill) (n : ℕ) (a : ConsequenceResult) → spilled s (outcome n a) ≡ outcome n (add_splice_spill s a)
spilled_outcome s n a = on_test (eqb n 0) (λ e. rw e) (λ e. rw e)

module _ (t : Transcript) (w : Window) (q : Call) where
  -- past the refusals before the place
  pub opened : (r : Result (Unit {0}) Refusal) (u : Unit {0}) → r ≡ outcome (opening_refusal t w q) tt → r ≡ Ok u → opening_refusal t w q ≡ 0
  opened r u e o = was_answered tt (opening_refusal t w q) u (sym e ∙ o)

  pub opened_low : admission t ≡ 0 → opening_refusal t w q ≡ 0 → (p : ℕ) → p ≡ orient_base t.model.strand q.position → p ≤ top
  opened_low a h p e = rw e (base_low t.model.strand q.position (opening_within t w q a h))

module _ (r : Ranges) (t : Transcript) (w : Window) (q : Call) where
  -- a refusal before the place is known
  pub refused : (f : Refusal) → outcome {A = Unit {0}} (opening_refusal t w q) tt ≡ Err f → Err f ≡ annotate_snv r t w q
  unfolding annotate_snv call_refusal
  refused f h = passed_first {A = Unit {0}} tt (call_result r t w q) (opening_refusal t w q) f h _

  pub not_admitted : (f : Refusal) → outcome {A = Unit {0}} (admission t) tt ≡ Err f → Err f ≡ annotate_snv r t w q
  unfolding opening_refusal
  not_admitted f h = refused f (sym (passed_first {A = Unit {0}} {B = Unit {0}} tt tt (admission t) f h _))

  abbrev base : ℕ
  base = orient_base t.model.strand q.position

  abbrev closing : ℕ
  closing = closing_refusal (is_distal (call_place r t q)) (lacks_codon (call_codon t w) (call_place r t q))

  -- the answer at the place with its spill
  pub answered : opening_refusal t w q ≡ 0 → (p : ℕ) → p ≡ base → (place : VariantLocation) → place ≡ locate r (oriented t) p
      → (x : Called) → x ≡ place_called (call_table t) (oriented t) p (coding_byte t.model.strand q.alt_base) (call_codon t w) place
      → (s : SpliceSpill) → s ≡ spill_at (oriented t) p → spilled s x ≡ annotate_snv r t w q
  unfolding annotate_snv call_refusal call_result place_called
  answered h p ep place el x ex s es =
      (λ k. spilled (es k) (ex k))
      ∙ ap (λ (l : VariantLocation). spilled (spill_at (oriented t) p) (place_called (call_table t) (oriented t) p (coding_byte t.model.strand q.alt_base) (call_codon t w) l)) el
      ∙ ap (λ (n : ℕ). spilled (spill_at (oriented t) n) (place_called (call_table t) (oriented t) n (coding_byte t.model.strand q.alt_base) (call_codon t w) (locate r (oriented t) n))) ep
      ∙ rw h (spilled_outcome (spill_at (oriented t) base) closing (place_result (call_table t) (oriented t) base (coding_byte t.model.strand q.alt_base) (call_codon t w) (call_place r t q)))
