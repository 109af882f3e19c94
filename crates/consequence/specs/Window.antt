-- The window: lent bytes, taken as they stand, from a first coordinate on one chromosome.
use Rattle.std.specs.Prelude.{ℕ, ◌+◌, ◌-◌, Bool, cond, ◌&&◌, List, length, get_or, leb, ltb, Option, Some, None}
use Rattle.codon.specs.Bases.{complement_of}
use Rattle.transcript.specs.declared.Strand.{Strand}
use Rattle.transcript.specs.declared.Strand.TheVariants.{Plus, Minus}
use Rattle.transcript.specs.Orient.{orient_base}
use Rattle.consequence.specs.declared.Window.{Window as Lent}

pub record Window : Type 0 where
  pub chromosome : ℕ
  pub first : ℕ
  pub bytes : List ℕ

-- the window whose bytes a struct lends
abbrev pub window_of : Lent → Window
window_of w = record { chromosome = w.chromosome; first = w.first; bytes = w.bytes.now }

-- the coordinate lies in the window
abbrev pub in_window : Window → ℕ → Bool
in_window w p = leb w.first p && ltb p (w.first + length w.bytes)

-- the byte at a coordinate
abbrev pub byte_at : Window → ℕ → ℕ
byte_at w p = get_or w.bytes (p - w.first) 0

unfoldable pub base_at : Window → ℕ → Option ℕ
base_at w p = cond (in_window w p) (Some (byte_at w p)) None

-- a byte as the coding strand has it: complemented on minus
abbrev pub coding_byte : Strand → ℕ → ℕ
coding_byte Plus b = b
coding_byte Minus b = complement_of b

abbrev pub coding_fetched : Strand → Option ℕ → Option ℕ
coding_fetched strand (Some b) = Some (coding_byte strand b)
coding_fetched strand None = None

-- the coding base at an oriented position
abbrev pub coding_base : Strand → Window → ℕ → Option ℕ
coding_base strand w p = coding_fetched strand (base_at w (orient_base strand p))
