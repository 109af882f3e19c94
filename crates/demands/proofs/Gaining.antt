-- A carried answer loses no mark and no term, and gains them only with the mark that was added.
use Rattle.std.specs.Prelude.{Result}
use Rattle.std.specs.Prelude.{Err, Ok}
use mathlib.Core.Path.{◌≡◌, refl, sym, ◌∙◌}
use mathlib.Core.Bool.{Bool, true, false, ◌&&◌, ◌||◌}
use borrow.Author.Tests.{eqb-true}
use Rattle.common.proofs.TestParts.{true_false, and_true, on_test}
use Rattle.locate.specs.declared.VariantLocation.{VariantLocation}
use Rattle.locate.specs.declared.VariantLocation.TheVariants.{Upstream, Downstream, Distal, FivePrimeUtr, CdsExon, ThreePrimeUtr, SpliceDonor, SpliceAcceptor, SpliceRegion, Intron, FrameshiftIntron, NonCodingExon, NonCodingIntron}
use Rattle.common.specs.declared.refusal.Refusal.{Refusal}
use Rattle.consequence.specs.declared.ConsequenceResult.{ConsequenceResult}
use Rattle.consequence.specs.Called.{Called}
use Rattle.terms.specs.declared.Consequence.{Consequence}
use Rattle.terms.specs.declared.Consequence.TheVariants.{SpliceRegionVariant}
use Rattle.terms.specs.Severity.{severity_rank}
use Rattle.terms.specs.Terms.{holds_term}
use Rattle.terms.specs.claims.Held.{same_term}
use Rattle.terms.proofs.Holding.{holds_with_if}
use Rattle.terms.proofs.Ranked.{ranks_differ}
use Rattle.demands.specs.Carry.{Added, carry_place, gains_term, carry_result, carry_located, carry_called}
use Rattle.demands.specs.Gains.{splice_mark, place_mark, call_mark, MarkKept, TermsKept}

marked : (m g : Bool) → MarkKept m (m || g) g
marked true g = record { kept = λ h. refl; gained = λ e h. absurd (true_false h) }
marked false g = record { kept = λ h. absurd (true_false (sym h)); gained = λ e h. e }

unmarked : (g : Bool) → MarkKept false false g
unmarked g = record { kept = λ h. h; gained = λ e h. absurd (true_false (sym e)) }

module _ (x : Added) where
  mark_kept : (v : VariantLocation) → MarkKept (splice_mark v) (splice_mark (carry_place x v)) x.mark
  unfolding carry_place
  mark_kept (Upstream d) = unmarked x.mark
  mark_kept (Downstream d) = unmarked x.mark
  mark_kept Distal = unmarked x.mark
  mark_kept (FivePrimeUtr i d m) = marked m x.mark
  mark_kept (CdsExon i g o n c m) = marked m x.mark
  mark_kept (ThreePrimeUtr i d m) = marked m x.mark
  mark_kept (SpliceDonor i d) = unmarked x.mark
  mark_kept (SpliceAcceptor i d) = unmarked x.mark
  mark_kept (SpliceRegion i s d) = unmarked x.mark
  mark_kept (Intron i d) = unmarked x.mark
  mark_kept (FrameshiftIntron i d) = unmarked x.mark
  mark_kept (NonCodingExon i m) = marked m x.mark
  mark_kept (NonCodingIntron i d) = unmarked x.mark

  place_kept : (v : Result VariantLocation Refusal) → MarkKept (place_mark v) (place_mark (carry_located x v)) x.mark
  place_kept (Ok place) = mark_kept place
  place_kept (Err r) = unmarked x.mark

  call_kept : (v : Called) → MarkKept (call_mark v) (call_mark (carry_called x v)) x.mark
  unfolding carry_result
  call_kept (Ok a) = mark_kept a.location
  call_kept (Err r) = unmarked x.mark

  -- the terms of a carried answer: the former ones, and splice_region_variant where it is gained
  result_holds : (a : ConsequenceResult) (c : Consequence)
      → holds_term (carry_result x a).consequences.0 c ≡ (holds_term a.consequences.0 c || (gains_term x a && same_term SpliceRegionVariant c))
  unfolding carry_result
  result_holds a c = holds_with_if (gains_term x a) a.consequences.0 SpliceRegionVariant c

  gains_mark : (a : ConsequenceResult) → gains_term x a ≡ true → x.mark ≡ true
  unfolding gains_term
  gains_mark a h = on_test x.mark (λ m. m) (λ m. absurd (true_false (sym (rw m at h))))

  terms_kept : (v : Called) → TermsKept v (carry_called x v) x.mark
  terms_kept (Ok a) = record {
    kept = λ c h. result_holds a c ∙ rw h;
    gained = λ c e h. (
        let b = and_true (gains_term x a) (same_term SpliceRegionVariant c) (rw h at (sym (result_holds a c) ∙ e)) in
        (sym (ranks_differ SpliceRegionVariant c (eqb-true (severity_rank SpliceRegionVariant) (severity_rank c) b.1)), gains_mark a b.0));
  }
  terms_kept (Err r) = record { kept = λ c h. h; gained = λ c e h. absurd (true_false (sym e)) }

-- of two answers, one the other's carried; `near` holds wherever the mark is added
module _ (x : Added) (near : Bool) (n : x.mark ≡ true → near ≡ true) where
  mark_near : (s l : Bool) → MarkKept s l x.mark → MarkKept s l near
  mark_near s l k = record { kept = k.kept; gained = λ e h. n (k.gained e h) }

  pub place_mark_kept : (v w : Result VariantLocation Refusal) → w ≡ carry_located x v → MarkKept (place_mark v) (place_mark w) near
  place_mark_kept v w e = mark_near (place_mark v) (place_mark w) (rw e (place_kept x v))

  pub call_mark_kept : (v w : Called) → w ≡ carry_called x v → MarkKept (call_mark v) (call_mark w) near
  call_mark_kept v w e = mark_near (call_mark v) (call_mark w) (rw e (call_kept x v))

  pub call_terms_kept : (v w : Called) → w ≡ carry_called x v → TermsKept v w near
  call_terms_kept v w e =
      let k : TermsKept v w x.mark = rw e (terms_kept x v) in
      record { kept = k.kept; gained = λ c f h. (let g = k.gained c f h in (g.0, n g.1)) }
