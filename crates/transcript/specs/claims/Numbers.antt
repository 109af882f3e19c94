-- Demand 1: what is claimed of the number of every question, and of an admission.
use Rattle.std.specs.Prelude.{ℕ, ◌≡◌, Bool, true, List, [], ◌∷◌, eqb}
use Rattle.common.specs.Lists.{memb}
use Rattle.transcript.specs.Transcript.{Transcript}
use Rattle.transcript.specs.Admission.{admission, admission_of}
use Rattle.common.specs.Refusal.{outcome_number}
use Rattle.std.specs.Result.{is_ok}

-- demand 1 of a question: its answer's number is that of the refusal, it is one of the numbers given,
-- and it is 0 exactly where the question is answered
pub record NumberGiven (numbers : List ℕ) (refusal : ℕ) (number : ℕ) (answered : Bool) : Type 0 where
  pub refusal_is : number ≡ refusal
  pub among : memb number numbers ≡ true
  pub zero_answered : eqb number 0 ≡ answered

abbrev pub admission_numbers : List ℕ
admission_numbers = 0 ∷ 1 ∷ 2 ∷ 3 ∷ 4 ∷ 5 ∷ 6 ∷ 7 ∷ 8 ∷ 9 ∷ 10 ∷ 11 ∷ 12 ∷ 13 ∷ []

abbrev pub AdmissionGiven : Type 0
AdmissionGiven = (t : Transcript) → NumberGiven admission_numbers (admission t) (outcome_number (admission_of t)) (is_ok (admission_of t))
