-- The flank, the short intron and the spill of an interval as 7 numbers.
use Rattle.std.specs.Prelude.{ℕ, List, ◌∷◌, ◌++◌, ℤ, pos, Option, Result}
use Rattle.common.specs.declared.refusal.Refusal.{Refusal}
use Rattle.footprint.specs.declared.Flank.{Flank}
use Rattle.footprint.specs.declared.SpliceSpill.{SpliceSpill}
use Rattle.footprint.specs.Numbers.{flank_words, endpoint_words, spill_words}

abbrev pub interval_words : Result Flank Refusal → Result (Option ℕ) Refusal → Result SpliceSpill Refusal → List ℤ
interval_words f e s = pos 0 ∷ (flank_words f ++ (endpoint_words e ++ spill_words s))
