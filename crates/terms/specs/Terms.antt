-- Sets of terms: one number, bit (severity rank − 1) for each term.
use Rattle.std.specs.Prelude.{ℕ, zero, suc, ◌+◌, ◌-◌, ◌/◌, ◌%◌, ◌^◌, Bool, true, false, cond, ◌||◌, List, [], length, get_or, eqb}
use Rattle.common.specs.Lists.{cons_if}
use Rattle.terms.specs.declared.Consequence.{Consequence}
use Rattle.terms.specs.declared.Consequence.TheVariants.{SpliceAcceptorVariant, SpliceDonorVariant, SpliceRegionVariant}
use Rattle.terms.specs.Severity.{severity_rank}

-- the set of one term
abbrev pub only : Consequence → ℕ
only c = 2 ^ (severity_rank c - 1)

-- the set holds the term
abbrev pub holds_term : ℕ → Consequence → Bool
holds_term s c = eqb (s / only c % 2) 1

-- the set with the term
unfoldable pub with_term : ℕ → Consequence → ℕ
with_term s c = cond (holds_term s c) s (s + only c)

-- the set with the term where the test holds
abbrev pub with_term_if : Bool → ℕ → Consequence → ℕ
with_term_if true s c = with_term s c
with_term_if false s c = s

-- the set without the term
unfoldable pub without_term : ℕ → Consequence → ℕ
without_term s c = cond (holds_term s c) (s - only c) s

-- the ranks of the terms held in the lowest `places` bits, of which the first has the given rank
unfoldable pub ranks_from : ℕ → ℕ → ℕ → List ℕ
ranks_from zero rank s = []
ranks_from (suc places) rank s = cons_if (eqb (s % 2) 1) rank (ranks_from places (suc rank) (s / 2))

-- the ranks of the terms held, lowest first
abbrev pub ranks : ℕ → List ℕ
ranks s = ranks_from 32 1 s

-- the lowest rank held, 0 where the set is empty
abbrev pub most_severe : ℕ → ℕ
most_severe s = get_or (ranks s) 0 0

-- the set without its most severe term
unfoldable pub without_first : ℕ → ℕ
without_first s = cond (eqb s 0) 0 (s - 2 ^ (most_severe s - 1))

-- how many terms the set holds
abbrev pub term_count : ℕ → ℕ
term_count s = length (ranks s)

-- a spill adds the splice term of each end that is hit, and any hit removes splice_region_variant
unfoldable pub spill_terms : Bool → Bool → ℕ → ℕ
spill_terms donor acceptor terms =
    cond (donor || acceptor)
    (without_term (with_term_if acceptor (with_term_if donor terms SpliceDonorVariant) SpliceAcceptorVariant) SpliceRegionVariant)
    terms
