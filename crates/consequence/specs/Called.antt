-- The answer to a call, or its refusal.
use Rattle.std.specs.Prelude.{ℕ, Result, Ok, Err}
use Rattle.common.specs.declared.refusal.Refusal.{Refusal}
use Rattle.common.specs.Refusal.{number}
use Rattle.consequence.specs.declared.ConsequenceResult.{ConsequenceResult}

abbrev pub Called : Type 0
Called = Result ConsequenceResult Refusal

-- the answer, or the refusal's number
abbrev pub by_number : Called → Result ConsequenceResult ℕ
by_number (Ok a) = Ok a
by_number (Err r) = Err (number r)
