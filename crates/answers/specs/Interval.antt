-- The questions about an interval, answered together.
use Rattle.std.specs.Prelude.{ℕ, List, ℤ}
use Rattle.transcript.specs.Transcript.{Transcript}
use Rattle.footprint.specs.Ranges.{source_ranges}
use Rattle.common.specs.Refusal.{outcome_number}
use Rattle.footprint.specs.Question.{flank, short_intron, spill}
use Rattle.words.specs.IntervalWords.{interval_words}
use Rattle.answers.specs.Left.{Answered}

-- the three questions are refused alike
abbrev pub IntervalAnswered : Transcript → ℕ → ℕ → ℕ → List ℤ → List ℤ → ℕ → Type 0
IntervalAnswered t chromosome s e before after number =
    Answered (outcome_number (flank source_ranges t chromosome s e))
    (interval_words (flank source_ranges t chromosome s e) (short_intron t chromosome s e) (spill t chromosome s e)) before after number
