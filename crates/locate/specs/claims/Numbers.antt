-- Demand 1 of the index and of the question of a place.
use Rattle.std.specs.Prelude.{ℕ}
use Rattle.transcript.specs.Transcript.{Transcript}
use Rattle.transcript.specs.Question.{place_refusal}
use Rattle.transcript.specs.Admission.{admission}
use Rattle.transcript.specs.claims.Numbers.{NumberGiven, admission_numbers}
use Rattle.common.specs.Refusal.{outcome_number}
use Rattle.std.specs.Result.{is_ok}
use Rattle.footprint.specs.declared.Ranges.{Ranges}
use Rattle.footprint.specs.claims.Numbers.{question_numbers}
use Rattle.locate.specs.Index.{indexed}
use Rattle.locate.specs.Query.{locate_variant}

abbrev pub IndexGiven : Type 0
IndexGiven = (t : Transcript) → NumberGiven admission_numbers (admission t) (outcome_number (indexed t)) (is_ok (indexed t))

abbrev pub PlaceGiven : Type 0
PlaceGiven =
    (r : Ranges) (t : Transcript) (chromosome s e : ℕ) →
    NumberGiven question_numbers (place_refusal t chromosome s e) (outcome_number (locate_variant r t chromosome s e)) (is_ok (locate_variant r t chromosome s e))
