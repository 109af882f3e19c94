-- A table while it is filled.
-- Assumes nothing.
use Prim.Native.Nat.{ℕ, ◌+◌, ◌≤◌, ◌<◌}
use mathlib.Core.Path.{◌≡◌, sym, ◌∙◌}
use mathlib.Core.List.{List, map}
use native.Mathlib.Omega.{arith}
use lib.ListN.{length, get_or, set, length-map}
use Rattle.common.proofs.Filling.{front, front_step, map_at}
use Rattle.deck.specs.declared.Table.{Table}
use Rattle.deck.specs.Records.{kind_of, mark_of, word}
use Rattle.deck.specs.code.Table.{number_of}

-- the first i records, then zeros
abbrev pub first_rows : List ℕ → List ℕ → ℕ → Table
first_rows d order i = record {
  kinds = front (map (kind_of d) order) 4096 i;
  marks = front (map (mark_of d) order) 4096 i;
  ids = front (map (λ j. word d j 4) order) 4096 i;
  numbers = front (map (number_of d) order) 4096 i;
  starts = front (map (λ j. word d j 4) order) 4096 i;
  ends = front (map (λ j. word d j 8) order) 4096 i;
}

module _ (f : ℕ → ℕ) (order : List ℕ) (i : ℕ) where
  pub column_step : length order ≤ 4096 → i < length order → {v : ℕ} → v ≡ f (get_or order i 0)
      → set (front (map f order) 4096 i) i v ≡ front (map f order) 4096 (i + 1)
  column_step few l {v} e =
      let n = length-map order f in
      front_step (map f order) 4096 i (omega arith) (omega arith) (omega arith) v (e ∙ sym (map_at f order i 0 0 l))
