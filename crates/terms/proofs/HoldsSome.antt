-- A set that holds some term: which operations leave one, and its most severe term.
-- Assumes nothing.
use Prim.Native.Nat.{ℕ, zero, suc, ◌/◌, ◌%◌, ◌≤◌}
use mathlib.Core.Path.{◌≡◌, refl, sym, ◌∙◌}
use mathlib.Core.Bool.{Bool, true, false, ◌||◌}
use mathlib.Core.List.{List}
use native.Mathlib.Omega.{arith}
use lib.ListN.{get_or}
use lib.Dec.{eqb}
use borrow.Author.Tests.{eqb-true, eq-eqb}
use Rattle.common.specs.Lists.{memb, cons_if}
use Rattle.common.proofs.TestParts.{true_false, on_test, or_right}
use Rattle.terms.specs.declared.Consequence.{Consequence}
use Rattle.terms.specs.declared.Consequence.TheVariants.{SpliceAcceptorVariant, SpliceDonorVariant}
use Rattle.terms.specs.Severity.{severity_rank}
use Rattle.terms.specs.Terms.{only, holds_term, with_term_if, ranks_from, most_severe, spill_terms}
use Rattle.terms.proofs.Bit.{rank}
use Rattle.terms.proofs.Holding.{holds_only, holds_with_if, holds_spilled}
use Rattle.terms.proofs.Members.{ranks_held}

pub record HoldsSome (s : ℕ) : Type 0 where
  pub term : Consequence
  pub held : holds_term s term ≡ true

pub some_only : (c : Consequence) → HoldsSome (only c)
some_only c = record { term = c; held = holds_only c c ∙ eq-eqb (severity_rank c) (severity_rank c) refl }

pub some_with_if : (b : Bool) (s : ℕ) (c : Consequence) → HoldsSome s → HoldsSome (with_term_if b s c)
some_with_if b s c h = record { term = h.term; held = holds_with_if b s c h.term ∙ rw h.held }

-- a spill that takes splice_region_variant away adds a splice term
pub some_spilled : (donor acceptor : Bool) (s : ℕ) → HoldsSome s → HoldsSome (spill_terms donor acceptor s)
unfolding spill_terms
some_spilled true acceptor s h = record {
  term = SpliceDonorVariant;
  held = holds_spilled true acceptor s SpliceDonorVariant ∙ rw (or_right (holds_term s SpliceDonorVariant) true refl);
}
some_spilled false true s h = record {
  term = SpliceAcceptorVariant;
  held = holds_spilled false true s SpliceAcceptorVariant ∙ rw (or_right (holds_term s SpliceAcceptorVariant || false) true refl);
}
some_spilled false false s h = h

-- the first of ascending ranks is the lowest
first_is : (b : Bool) (r x : ℕ) (more : List ℕ) → memb x (cons_if b r more) ≡ true
    → (memb x more ≡ true → (suc r ≤ get_or more 0 0) × (get_or more 0 0 ≤ x))
    → (r ≤ get_or (cons_if b r more) 0 0) × (get_or (cons_if b r more) 0 0 ≤ x)
first_is true r x more m f = on_test (eqb x r)
    (λ e. (let q = eqb-true x r e in (omega arith, omega arith)))
    (λ e. (let g = f (rw e at m) in let a = g.0 in let b = g.1 in (omega arith, omega arith)))
first_is false r x more m f = let g = f m in let a = g.0 in let b = g.1 in (omega arith, omega arith)

lowest_first : (k r n x : ℕ) → memb x (ranks_from k r n) ≡ true
    → (r ≤ get_or (ranks_from k r n) 0 0) × (get_or (ranks_from k r n) 0 0 ≤ x)
unfolding ranks_from
lowest_first zero r n x h = absurd (true_false (sym h))
lowest_first (suc k) r n x h = first_is (eqb (n % 2) 1) r x (ranks_from k (suc r) (n / 2)) h (lowest_first k (suc r) (n / 2) x)

pub some_severe : (s : ℕ) → HoldsSome s → (1 ≤ most_severe s) × (most_severe s ≤ 28)
some_severe s h =
    let l = lowest_first 32 1 s (severity_rank h.term) (ranks_held s h.term ∙ h.held) in
    let a = l.1 in
    let b = (rank h.term).high in
    (l.0, omega arith)
