-- Numbers put into a buffer.
use Rattle.std.specs.Prelude.{ℕ, ◌+◌, cond, List, length, leb, ℤ}
use Rattle.std.proofs.lemmas.List.Edits.{sets}

-- the buffer with the numbers from a position on; as it was where they do not all fit
abbrev pub put_at : List ℤ → ℕ → List ℤ → List ℤ
put_at buffer at words = cond (leb (at + length words) (length buffer)) (sets buffer at words) buffer
