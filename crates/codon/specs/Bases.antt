-- Base numbers and complements of bytes.
use Rattle.std.specs.Prelude.{ℕ, ◌-◌, ◌/◌, ◌%◌, Bool, cond, ◌||◌, Option, Some, None, eqb, ltb}
use Rattle.common.specs.Text.{byte}

-- the byte is A, C, G or T
abbrev pub is_base : ℕ → Bool
is_base b = eqb b (byte "A") || eqb b (byte "C") || eqb b (byte "G") || eqb b (byte "T")

-- the byte halved, modulo 4, and where that is 2 or 3 taken from 5
abbrev pub two_bits : ℕ → ℕ
two_bits b = let n = b / 2 % 4 in cond (ltb n 2) n (5 - n)

-- the number of a base, 0 to 3 for A, C, G and T; none for every other byte
unfoldable pub base_number : ℕ → Option ℕ
base_number b = cond (is_base b) (Some (two_bits b)) None

-- the byte of a base number
unfoldable pub base_byte : ℕ → ℕ
base_byte n =
    cond (eqb n 0) (byte "A")
    (cond (eqb n 1) (byte "C")
    (cond (eqb n 2) (byte "G") (byte "T")))

-- A and T, C and G are exchanged; every other byte stays
unfoldable pub complement_of : ℕ → ℕ
complement_of b =
    cond (eqb b (byte "A")) (byte "T")
    (cond (eqb b (byte "T")) (byte "A")
    (cond (eqb b (byte "C")) (byte "G")
    (cond (eqb b (byte "G")) (byte "C") b)))
