-- What a question with a lent buffer returns, and what it leaves in the buffer.
use Rattle.std.specs.Prelude.{ℕ, ◌≡◌, Bool, cond, List, eqb, ℤ}
use Rattle.transcript.specs.Transcript.{Transcript}
use Rattle.footprint.specs.Ranges.{source_ranges}
use Rattle.common.specs.Refusal.{outcome_number}
use Rattle.locate.specs.Numbers.{located_words}
use Rattle.locate.specs.Query.{locate_variant}

-- the words where nothing is refused; else nothing is written
abbrev pub left : ℕ → List ℤ → List ℤ → List ℤ
left refusal words buffer = cond (eqb refusal 0) words buffer

-- the number returned, which is the refusal's, 0 for none, and the buffer before and after
pub record Answered (refusal : ℕ) (words before after : List ℤ) (number : ℕ) : Type 0 where
  pub number_is : number ≡ refusal
  pub words_are : after ≡ left refusal words before

-- of lists: 1 where a list or the buffer has another length than asked
abbrev pub list_refusal : Bool → ℕ → ℕ
list_refusal fits refusal = cond fits refusal 1

-- the place of [s, e) in 8 numbers
abbrev pub PlaceAnswered : Transcript → ℕ → ℕ → ℕ → List ℤ → List ℤ → ℕ → Type 0
PlaceAnswered t chromosome s e before after number =
    Answered (outcome_number (locate_variant source_ranges t chromosome s e))
    (located_words (locate_variant source_ranges t chromosome s e)) before after number
