-- What a question is refused by, a case at a time, and the answer that goes with its number.
-- Assumes nothing.
use Prim.Native.Nat.{ℕ, ◌≤◌, ◌<◌}
use mathlib.Core.Path.{◌≡◌, sym, ◌∙◌, ap}
use mathlib.Core.Bool.{Bool, true, false, cond, not, ◌||◌}
use native.Mathlib.Omega.{arith}
use lib.Dec.{eqb, ltb}
use borrow.Author.Tests.{eq-eqb, ne_eqb, ltb-false}
use Rattle.common.proofs.TestParts.{or_false}
use Rattle.transcript.specs.declared.Strand.{Strand}
use Rattle.transcript.specs.declared.Strand.TheVariants.{Plus, Minus}
use Rattle.std.specs.Prelude.{Result, Ok, Err}
use Rattle.common.specs.declared.refusal.Refusal.{Refusal}
use Rattle.common.specs.Refusal.{outcome}
use Rattle.common.proofs.Outcome.{was_answered, passed_first}
use Rattle.transcript.specs.Limits.{top, query_limit}
use Rattle.transcript.specs.Transcript.{Transcript}
use Rattle.transcript.specs.Orient.{orient_base}
use Rattle.transcript.specs.Admission.{admission, admission_of}
use Rattle.transcript.specs.Question.{bad_interval, is_elsewhere, query_refusal, question_refusal}

-- a base of a question stands below the top
pub base_low : (σ : Strand) (p : ℕ) → p ≤ query_limit → orient_base σ p ≤ top
base_low Plus p h = omega arith
base_low Minus p h = omega arith

-- an interval that is not bad lies within the limit
pub interval_within : (s e : ℕ) → bad_interval s e ≡ false → (s ≤ query_limit) × (e ≤ query_limit) × (s ≤ e)
interval_within s e h =
    let a = or_false (ltb query_limit s || ltb query_limit e) (ltb e s) h in
    let b = or_false (ltb query_limit s) (ltb query_limit e) a.0 in
    (ltb-false query_limit s b.0, ltb-false query_limit e b.1, ltb-false e s a.1)

pub start_within : (s e : ℕ) → (bad_interval s e || eqb s e) ≡ false → s ≤ query_limit
start_within s e h = (interval_within s e (or_false (bad_interval s e) (eqb s e) h).0).0

-- a chromosome, compared
pub elsewhere : (t : Transcript) (c : ℕ) → (c ≡ t.model.chromosome → ⊥) → is_elsewhere t c ≡ true
elsewhere t c h = ap not (ne_eqb c t.model.chromosome h)

pub not_elsewhere : (t : Transcript) (c : ℕ) → c ≡ t.model.chromosome → is_elsewhere t c ≡ false
not_elsewhere t c h = ap not (eq-eqb c t.model.chromosome h)

-- a transcript that is admitted, or the refusal that is passed on
module _ (t : Transcript) (a : Result (Unit {0}) Refusal) (is : a ≡ admission_of t) where
  pub admitted_is : (u : Unit {0}) → a ≡ Ok u → admission t ≡ 0
  admitted_is u e = was_answered tt (admission t) u (sym is ∙ e)

  pub by_admission : {A : Type 0} (x : A) (r : Refusal) → a ≡ Err r → (bad away : Bool) → Err r ≡ outcome (question_refusal t bad away) x
  unfolding question_refusal
  by_admission x r e bad away = passed_first tt x (admission t) r (sym is ∙ e) (query_refusal bad away 0)

-- the refusal of a question, case by case
module _ (t : Transcript) (bad away : Bool) where
  pub by_admission_number : (n : ℕ) → 0 < n → n ≡ admission t → question_refusal t bad away ≡ n
  unfolding question_refusal
  by_admission_number n l h = rw (sym h, ne_eqb n 0 (λ z. (omega arith)))

  pub by_15 : admission t ≡ 0 → bad ≡ true → question_refusal t bad away ≡ 15
  unfolding question_refusal
  by_15 h b = rw (h, b)

  pub by_14 : admission t ≡ 0 → bad ≡ false → away ≡ true → question_refusal t bad away ≡ 14
  unfolding question_refusal
  by_14 h b a = rw (h, b, a)

  pub by_none : admission t ≡ 0 → bad ≡ false → away ≡ false → question_refusal t bad away ≡ 0
  unfolding question_refusal
  by_none h b a = rw (h, b, a)

-- the answer that goes with a number: `x` where it is 0, else the refusal
module _ {A : Type 0} (refused : ℕ → A) (x : A) (w : ℕ) where
  pub is_refused_lem : (n : ℕ) → 0 < n → w ≡ n → refused n ≡ cond (eqb w 0) x (refused w)
  is_refused_lem n l e = rw (e, ne_eqb n 0 (λ z. (omega arith)))

  pub is_answered_lem : w ≡ 0 → x ≡ cond (eqb w 0) x (refused w)
  is_answered_lem e = rw e
