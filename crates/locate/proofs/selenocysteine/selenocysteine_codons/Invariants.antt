use Prim.Native.Nat.{ℕ, ◌+◌, ◌/◌}
use mathlib.Core.Path.{◌≡◌}
use mathlib.Core.List.{List, map}
use Rattle.transcript.specs.declared.Strand.{Strand}
use Rattle.transcript.specs.Orient.{orient_base}
use Rattle.transcript.specs.Bases.{bases_in}
use Rattle.transcript.specs.code.Lent.{lent_exons}
use Rattle.locate.specs.code.Sums.{first_sum}
use Rattle.common.proofs.Filling.{front}
use Rattle.locate.proofs.selenocysteine.selenocysteine_codons.Given as goal

-- the codon number of an oriented base
abbrev pub number : Strand → List ℕ → List ℕ → List ℕ → ℕ → ℕ
number strand starts ends sums b = (first_sum sums + bases_in (lent_exons strand starts ends) 0 b) / 3 + 1

abbrev pub numbers_of : Strand → List ℕ → List ℕ → List ℕ → List ℕ → List ℕ
numbers_of strand starts ends sums bases = map (number strand starts ends sums) (map (orient_base strand) bases)

abbrev pub invariant-loop-i : goal.invariant-loop-i
invariant-loop-i l = l.numbers ≡ front (numbers_of l.segments.strand l.segments.intervals.starts.now l.segments.intervals.ends.now l.sums l.bases) 64 l.i
