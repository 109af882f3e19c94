-- A truth value as a number.
use Rattle.std.specs.Prelude.{ℕ, Bool, cond}

abbrev pub flag : Bool → ℕ
flag b = cond b 1 0
