-- Selenocysteine bases whose codons can be read.
use Rattle.std.specs.Prelude.{ℕ, ◌≤◌, ◌≡◌, false, List, map, length}
use Rattle.common.specs.Lists.{any}
use Rattle.transcript.specs.declared.Strand.{Strand}
use Rattle.transcript.specs.Limits.{max_selenocysteine}
use Rattle.transcript.specs.Orient.{Interval, orient_base}
use Rattle.transcript.specs.Admission.{over_limit, in_none}
use Rattle.locate.specs.code.Sums.{Sums}

-- segments with their sums, and bases that lie in them
pub record Coded (strand : Strand) (segments : List Interval) (sums bases : List ℕ) : Type 0 where
  pub summed : Sums segments sums
  pub few_bases : length bases ≤ max_selenocysteine
  pub bases_low : any over_limit bases ≡ false
  pub bases_held : any (in_none segments) (map (orient_base strand) bases) ≡ false
