-- What is claimed of sets of terms: which terms the set of each operation holds, and what its ranks are.
use Rattle.std.specs.Prelude.{ℕ, ◌^◌, ◌≤◌, ◌<◌, Bool, not, ◌&&◌, ◌||◌, List, [], ◌∷◌, ◌≡◌, eqb}
use Rattle.common.specs.Lists.{memb}
use Rattle.terms.specs.declared.Consequence.{Consequence}
use Rattle.terms.specs.declared.Consequence.TheVariants.{SpliceAcceptorVariant, SpliceDonorVariant, SpliceRegionVariant}
use Rattle.terms.specs.Severity.{severity_rank}
use Rattle.terms.specs.Terms.{only, holds_term, with_term, with_term_if, without_term, ranks, spill_terms}

-- the two are one term: they have one rank
abbrev pub same_term : Consequence → Consequence → Bool
same_term c d = eqb (severity_rank c) (severity_rank d)

-- two terms of one rank are one
abbrev pub RanksDiffer : Type 0
RanksDiffer = (c d : Consequence) → severity_rank c ≡ severity_rank d → c ≡ d

-- the set of one term holds it, and no other
abbrev pub HoldsOnly : Type 0
HoldsOnly = (c d : Consequence) → holds_term (only c) d ≡ same_term c d

-- with a term: those held before, and that one
abbrev pub HoldsWith : Type 0
HoldsWith = (s : ℕ) (c d : Consequence) → holds_term (with_term s c) d ≡ (holds_term s d || same_term c d)

abbrev pub HoldsWithIf : Type 0
HoldsWithIf = (b : Bool) (s : ℕ) (c d : Consequence) → holds_term (with_term_if b s c) d ≡ (holds_term s d || (b && same_term c d))

-- without a term: those held before but that one
abbrev pub HoldsWithout : Type 0
HoldsWithout = (s : ℕ) (c d : Consequence) → holds_term (without_term s c) d ≡ (holds_term s d && not (same_term c d))

-- after a spill: those held before and the splice term of each end that is hit, but not splice_region_variant where one is
abbrev pub HoldsSpilled : Type 0
HoldsSpilled =
    (donor acceptor : Bool) (s : ℕ) (d : Consequence) →
    holds_term (spill_terms donor acceptor s) d
    ≡ (((holds_term s d || (donor && same_term SpliceDonorVariant d)) || (acceptor && same_term SpliceAcceptorVariant d))
    && not ((donor || acceptor) && same_term SpliceRegionVariant d))

-- the ranks of a set are those of the terms that it holds
abbrev pub RanksHeld : Type 0
RanksHeld = (s : ℕ) (c : Consequence) → memb (severity_rank c) (ranks s) ≡ holds_term s c

-- each number is above the one before it, the first above `low`, and none above `high`
abbrev pub Rising : ℕ → ℕ → List ℕ → Type 0
Rising low high [] = Unit {0}
Rising low high (x ∷ xs) = (low < x) × (x ≤ high) × Rising x high xs

-- the ranks of a set ascend, from 1, each once; those of a set in n bits go to n at most
abbrev pub RanksRise : Type 0
RanksRise = (n s : ℕ) → s < 2 ^ n → Rising 0 n (ranks s)
