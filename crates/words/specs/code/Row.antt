-- A place as the code hands it on.
use Rattle.std.specs.Prelude.{List, [], ◌∷◌, ℤ, pos}
use Rattle.words.specs.declared.row.Row.{Row}

abbrev pub row_words : Row → List ℤ
row_words r = pos r.kind ∷ pos r.mark ∷ pos r.index ∷ pos r.segment ∷ pos r.position ∷ r.distance ∷ pos r.number ∷ []
