-- Text stored in a buffer, numbers in an array.
use Rattle.std.specs.Prelude.{ℕ, ◌+◌, ◌-◌, ◌≡◌, List, ◌++◌, length, replicate}
use Rattle.std.proofs.lemmas.List.Edits.{sets}

-- the buffer with the text stored from a position on, as far as it reaches: `sets` of lib.Seq, an element at a time
abbrev pub stored : {A : Type 0} → List A → ℕ → List A → List A
stored buffer at text = sets buffer at text

-- the text is stored, and the position is behind it
pub record Pushed {A : Type 0} (buffer : List A) (at : ℕ) (text after : List A) (to : ℕ) : Type 0 where
  pub bytes : after ≡ stored buffer at text
  pub behind : to ≡ at + length text

-- with zeros up to n elements
abbrev pub filled : ℕ → List ℕ → List ℕ
filled n l = l ++ replicate (n - length l) 0
