-- What a question returns and leaves, case by case.
-- Assumes nothing.
use Prim.Native.Nat.{ℕ}
use mathlib.Core.Path.{◌≡◌, refl, sym, ◌∙◌, ap}
use mathlib.Core.Bool.{Bool, true, false}
use mathlib.Core.List.{List}
use lib.Dec.{eqb}
use lib.IntN.{ℤ}
use Rattle.std.specs.Prelude.{Result, Err}
use Rattle.common.specs.declared.refusal.Refusal.{Refusal}
use Rattle.common.specs.Refusal.{number, outcome_number}
use Rattle.common.proofs.Outcome.{refused_by, was_refused}
use Rattle.transcript.specs.Transcript.{Transcript}
use Rattle.transcript.specs.Admission.{admission, admission_of}
use Rattle.transcript.proofs.NumbersGiven.{admission_given}
use Rattle.answers.specs.Left.{Answered, list_refusal}

-- a refusal's number is not 0
not_none : (r : Refusal) → eqb (number r) 0 ≡ false
not_none r = (was_refused {A = Unit {0}} tt (number r) r (sym (refused_by tt r (number r) refl))).0

module _ (refusal : ℕ) (words before : List ℤ) where
  pub refused : (r : Refusal) → refusal ≡ number r → Answered refusal words before before (number r)
  refused r e = record { number_is = sym e; words_are = rw (e, not_none r) }

  pub answered : refusal ≡ 0 → (after : List ℤ) → after ≡ words → Answered refusal words before after 0
  answered e after w = record { number_is = sym e; words_are = rw e w }

module _ (fits : Bool) (refusal : ℕ) (words before : List ℤ) where
  pub list_refused : fits ≡ true → (r : Refusal) → refusal ≡ number r → Answered (list_refusal fits refusal) words before before (number r)
  list_refused h r e = refused (list_refusal fits refusal) words before r (rw h e)

-- the refusal of a transcript that is not admitted
pub not_admitted : (t : Transcript) (a : Result (Unit {0}) Refusal) (r : Refusal) → a ≡ admission_of t → a ≡ Err r → admission t ≡ number r
not_admitted t a r is e = sym (admission_given t).refusal_is ∙ ap outcome_number (sym is ∙ e)
