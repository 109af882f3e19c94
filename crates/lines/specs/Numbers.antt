-- What each case of a written line stands for: its length. Its refusal number, 0 where the line fits, is `outcome_number`.
use Rattle.std.specs.Prelude.{ℕ, List, [], ◌∷◌, Result, Ok, Err}
use Rattle.common.specs.declared.refusal.Refusal.{Refusal}

-- how many bytes were written
abbrev pub written_values : Result ℕ Refusal → List ℕ
written_values (Ok n) = n ∷ []
written_values (Err r) = []
