-- The printed line of a call: what is returned, and what is left in the buffer.
use Rattle.std.specs.Prelude.{ℕ, ◌≡◌, List, Result, Ok, Err}
use Rattle.common.specs.declared.refusal.Refusal.{Refusal}
use Rattle.common.specs.Refusal.{number}
use Rattle.transcript.specs.Transcript.{Transcript}
use Rattle.footprint.specs.Ranges.{source_ranges}
use Rattle.consequence.specs.declared.Call.{Call}
use Rattle.consequence.specs.Window.{Window}
use Rattle.consequence.specs.Call.{annotate_snv}
use Rattle.lines.specs.Line.{called_line, write_answer, written_to}
use Rattle.words.specs.declared.VareffectOutcome.{VareffectOutcome}

-- 0 and the line's length, or the refusal's number and 0
abbrev pub line_outcome : Result ℕ Refusal → VareffectOutcome
line_outcome (Ok n) = record { number = 0; value = n }
line_outcome (Err r) = record { number = number r; value = 0 }

-- the line with its number in front
abbrev pub call_line : Transcript → Window → Call → ℕ → List ℕ
call_line t w q number = called_line number t.model.id (annotate_snv source_ranges t w q)

-- the outcome, and the buffer before and after
pub record LineAnswered (t : Transcript) (w : Window) (q : Call) (number : ℕ) (before after : List ℕ) (r : VareffectOutcome) : Type 0 where
  pub outcome_is : r ≡ line_outcome (write_answer before (call_line t w q number))
  pub bytes_are : after ≡ written_to before (call_line t w q number)
