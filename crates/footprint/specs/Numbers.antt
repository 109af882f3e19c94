-- The values of an answer about an interval as numbers, zeros where it is refused.
use Rattle.std.specs.Prelude.{ℕ, List, [], ◌∷◌, ℤ, pos, Option, Some, None, Result, Ok, Err}
use Rattle.common.specs.declared.refusal.Refusal.{Refusal}
use Rattle.footprint.specs.declared.SpliceSpill.{SpliceSpill}
use Rattle.footprint.specs.declared.Flank.{Flank}
use Rattle.footprint.specs.declared.Flank.TheVariants.{Overlaps, Upstream, Downstream, Far}
use Rattle.common.specs.Flag.{flag}

-- its place in the order of declaration
abbrev pub flank_kind : Flank → ℕ
flank_kind Overlaps = 0
flank_kind (Upstream d) = 1
flank_kind (Downstream d) = 2
flank_kind Far = 3

abbrev pub flank_length : Flank → ℕ
flank_length Overlaps = 0
flank_length (Upstream d) = d
flank_length (Downstream d) = d
flank_length Far = 0

-- kind and distance
abbrev pub flank_words : Result Flank Refusal → List ℤ
flank_words (Ok f) = pos (flank_kind f) ∷ pos (flank_length f) ∷ []
flank_words (Err r) = pos 0 ∷ pos 0 ∷ []

-- 1 where an end lies in a short intron, and the index of that intron
abbrev pub intron_words : Option ℕ → List ℤ
intron_words (Some i) = pos 1 ∷ pos i ∷ []
intron_words None = pos 0 ∷ pos 0 ∷ []

abbrev pub endpoint_words : Result (Option ℕ) Refusal → List ℤ
endpoint_words (Ok intron) = intron_words intron
endpoint_words (Err r) = pos 0 ∷ pos 0 ∷ []

-- donor and acceptor
abbrev pub spill_words : Result SpliceSpill Refusal → List ℤ
spill_words (Ok s) = pos (flag s.donor) ∷ pos (flag s.acceptor) ∷ []
spill_words (Err r) = pos 0 ∷ pos 0 ∷ []
