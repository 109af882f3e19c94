-- The columns that the lists of a transcript come from.
use Rattle.std.specs.Prelude.{◌≡◌, length}
use Rattle.deck.specs.declared.Table.{Table}

-- they have one length
pub record Columns (t : Table) : Type 0 where
  pub of_marks : length t.marks ≡ 4096
  pub of_numbers : length t.numbers ≡ 4096
  pub of_starts : length t.starts ≡ 4096
  pub of_ends : length t.ends ≡ 4096
