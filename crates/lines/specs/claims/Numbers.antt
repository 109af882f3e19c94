-- Demand 1 of writing a line.
use Rattle.std.specs.Prelude.{ℕ, ◌≡◌, cond, List, [], ◌∷◌, length, ltb}
use Rattle.std.specs.Result.{is_ok}
use Rattle.common.specs.Refusal.{outcome_number}
use Rattle.common.specs.Refuse.{refuse}
use Rattle.consequence.specs.claims.Numbers.{NumberGiven}
use Rattle.lines.specs.Line.{fits, write_answer}
use Rattle.lines.specs.Numbers.{written_values}

abbrev pub written_numbers : List ℕ
written_numbers = 0 ∷ 28 ∷ []

-- 28 where the line is longer than the lent buffer, and only then
abbrev pub LineGiven : Type 0
LineGiven =
    (buffer line : List ℕ) →
    NumberGiven written_numbers (refuse (ltb (length buffer) (length line)) 28 0) (outcome_number (write_answer buffer line)) (is_ok (write_answer buffer line))

-- how many bytes were written
abbrev pub LineValued : Type 0
LineValued = (buffer line : List ℕ) → written_values (write_answer buffer line) ≡ cond (fits buffer line) (length line ∷ []) []
