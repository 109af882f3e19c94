-- How long the line of a call can be.
use Rattle.std.specs.Prelude.{ℕ, ◌≤◌, length, Result}
use Rattle.consequence.specs.declared.ConsequenceResult.{ConsequenceResult}
use Rattle.consequence.specs.Called.{Called}
use Rattle.lines.specs.Line.{numbered_line, called_line}

-- no line, newline included, has more than 1553 bytes
abbrev pub LongestLine : Type 0
LongestLine = (number id : ℕ) (c : Called) → length (called_line number id c) ≤ 1553

-- the same of a refusal of any number
abbrev pub LongestNumberedLine : Type 0
LongestNumberedLine = (number id : ℕ) (c : Result ConsequenceResult ℕ) → length (numbered_line number id c) ≤ 1553
