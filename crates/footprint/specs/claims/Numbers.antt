-- Demand 1 of the questions about an interval.
use Rattle.std.specs.Prelude.{ℕ, List, [], ◌∷◌}
use Rattle.transcript.specs.Transcript.{Transcript}
use Rattle.transcript.specs.Question.{interval_refusal}
use Rattle.transcript.specs.claims.Numbers.{NumberGiven}
use Rattle.footprint.specs.declared.Ranges.{Ranges}
use Rattle.footprint.specs.Question.{flank, short_intron, spill}
use Rattle.common.specs.Refusal.{outcome_number}
use Rattle.std.specs.Result.{is_ok}

abbrev pub question_numbers : List ℕ
question_numbers = 0 ∷ 1 ∷ 2 ∷ 3 ∷ 4 ∷ 5 ∷ 6 ∷ 7 ∷ 8 ∷ 9 ∷ 10 ∷ 11 ∷ 12 ∷ 13 ∷ 15 ∷ 14 ∷ []

abbrev pub FlankGiven : Type 0
FlankGiven =
    (r : Ranges) (t : Transcript) (chromosome s e : ℕ) →
    NumberGiven question_numbers (interval_refusal t chromosome s e) (outcome_number (flank r t chromosome s e)) (is_ok (flank r t chromosome s e))

abbrev pub ShortIntronGiven : Type 0
ShortIntronGiven =
    (t : Transcript) (chromosome s e : ℕ) →
    NumberGiven question_numbers (interval_refusal t chromosome s e) (outcome_number (short_intron t chromosome s e)) (is_ok (short_intron t chromosome s e))

abbrev pub SpillGiven : Type 0
SpillGiven =
    (t : Transcript) (chromosome s e : ℕ) →
    NumberGiven question_numbers (interval_refusal t chromosome s e) (outcome_number (spill t chromosome s e)) (is_ok (spill t chromosome s e))
