-- The line of an answered call in its three parts.
-- Assumes nothing.
use Prim.Native.Nat.{ℕ}
use mathlib.Core.Path.{◌≡◌}
use mathlib.Core.List.{[], ◌∷◌, ◌++◌, append_assoc}
use Rattle.common.specs.Text.{digits, decimal}
use Rattle.locate.specs.declared.VariantLocation.{VariantLocation}
use Rattle.locate.specs.PlaceKind.{place_name}
use Rattle.consequence.specs.declared.ConsequenceResult.{ConsequenceResult}
use Rattle.lines.specs.Line.{joined, answer_line}
use Rattle.lines.specs.code.Columns.{front_columns, number_columns, back_columns}

pub front_parts : (number id : ℕ) (place : VariantLocation) → ((((decimal number ++ (32 ∷ [])) ++ (decimal id ++ (32 ∷ []))) ++ (decimal 0 ++ (32 ∷ []))) ++ place_name place) ++ (32 ∷ []) ≡ front_columns number id place
unfolding front_columns digits
front_parts number id place = simp append_assoc

pub line_parts : (number id : ℕ) (x : ConsequenceResult) → (front_columns number id x.location ++ number_columns x) ++ back_columns x ≡ answer_line number id x
unfolding front_columns number_columns back_columns answer_line joined
line_parts number id x = simp append_assoc
