-- How far the first line reaches.
use Rattle.std.specs.Prelude.{ℕ, suc, cond, List, [], ◌∷◌, eqb}
use Rattle.lines.specs.Line.{newline}

-- the length of the first line, with its newline where it has one
abbrev pub line_length : List ℕ → ℕ
line_length [] = 0
line_length (b ∷ bs) = cond (eqb b newline) 1 (suc (line_length bs))
