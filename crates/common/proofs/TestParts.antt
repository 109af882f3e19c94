-- Tests taken apart: both, either, refusals in order.
-- Assumes nothing.
use Prim.Native.Nat.{ℕ, ◌<◌}
use mathlib.Core.Path.{◌≡◌, refl, sym, ◌∙◌, ap}
use mathlib.Core.Bool.{Bool, true, false, not, ◌&&◌, ◌||◌}
use mathlib.Core.Logic.{◌⊎◌, inl, inr}
use native.Mathlib.Omega.{arith}
use lib.Dec.{leb, ltb, eqb}
use borrow.Author.Tests.{ltb-true, ltb-false, eqb-true, eqb-false, le-leb, lt-leb}
use Rattle.common.specs.Refuse.{refuse, or_else}

-- a test that passes is not one that fails
pub true_false : true ≡ false → ⊥
true_false h = let z : ◌≡◌ {A = ℕ} 0 1 = cc in omega arith

pub and_true : (a b : Bool) → (a && b) ≡ true → (a ≡ true) × (b ≡ true)
and_true true b h = (refl, h)
and_true false b h = absurd (true_false (sym h))

pub or_true : (a b : Bool) → (a || b) ≡ true → (a ≡ true) ⊎ (b ≡ true)
or_true true b h = inl refl
or_true false b h = inr h

pub or_right : (a b : Bool) → b ≡ true → (a || b) ≡ true
or_right true b h = refl
or_right false b h = h

pub or_false : (a b : Bool) → (a || b) ≡ false → (a ≡ false) × (b ≡ false)
or_false true b h = absurd (true_false h)
or_false false b h = (refl, h)

pub and_not_false : (a b : Bool) → (a && not b) ≡ false → a ≡ true → b ≡ true
and_not_false true true h e = refl
and_not_false true false h e = absurd (true_false h)
and_not_false false b h e = absurd (true_false (sym e))

pub not_and_false : (a b : Bool) → (not a && b) ≡ false → b ≡ true → a ≡ true
not_and_false true b h e = refl
not_and_false false b h e = absurd (true_false (sym e ∙ h))

-- two tests are equal where each follows from the other
pub same_test : (a b : Bool) → (a ≡ true → b ≡ true) → (b ≡ true → a ≡ true) → a ≡ b
same_test true b f g = sym (f refl)
same_test false true f g = g refl
same_test false false f g = refl

-- a case analysis that keeps the equation
pub on_test : {A : Type 0} (b : Bool) → (b ≡ true → A) → (b ≡ false → A) → A
on_test true f g = f refl
on_test false f g = g refl

-- an order and its opposite
pub leb_not_ltb : (a b : ℕ) → leb a b ≡ not (ltb b a)
leb_not_ltb a b = on_test (ltb b a)
    (λ h. lt-leb a b (ltb-true b a h) ∙ sym (ap not h))
    (λ h. le-leb a b (ltb-false b a h) ∙ sym (ap not h))

-- no refusal: the test failed, and the later ones refuse nothing
pub refuse_none : (b : Bool) (n later : ℕ) → 0 < n → refuse b n later ≡ 0 → (b ≡ false) × (later ≡ 0)
refuse_none true n later l h = absurd (omega arith)
refuse_none false n later l h = (refl, h)

pub or_else_none : (n later : ℕ) → or_else n later ≡ 0 → (n ≡ 0) × (later ≡ 0)
or_else_none n later h = on_test (eqb n 0)
    (λ e. (eqb-true n 0 e, (rw e at h)))
    (λ e. absurd (eqb-false n 0 e (rw e at h)))
