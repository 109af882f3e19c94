-- Tests over lists taken apart.
-- Assumes nothing.
use Prim.Native.Nat.{ℕ, zero, suc, ◌+◌, ◌<◌}
use mathlib.Core.Path.{◌≡◌, refl, sym, ◌∙◌, ap}
use mathlib.Core.Bool.{Bool, true, false, ◌||◌}
use mathlib.Core.List.{List, [], ◌∷◌, map}
use native.Mathlib.Omega.{arith}
use native.Mathlib.Numerals.{add-one}
use lib.ListN.{length, get_or, drop}
use lib.Dec.{eqb}
use lib.Seq.{drop-cons, drop-length}
use borrow.Author.Tests.{eqb-true, eq-eqb}
use Rattle.common.specs.Lists.{any, memb}
use Rattle.common.proofs.TestParts.{or_false, or_right, same_test, on_test, true_false}

any_cons : {A : Type 0} (f : A → Bool) (x : A) (xs : List A) → any f (x ∷ xs) ≡ (f x || any f xs)
any_cons f x xs = refl

any_nil : {A : Type 0} (f : A → Bool) → any f [] ≡ false
any_nil f = refl

-- no element passes: not the first, none of the others
pub any_none : {A : Type 0} (f : A → Bool) (x : A) (xs : List A) → any f (x ∷ xs) ≡ false → (f x ≡ false) × (any f xs ≡ false)
any_none f x xs h = or_false (f x) (any f xs) h

-- one test for another that agrees with it everywhere
pub any_same : {A : Type 0} (f g : A → Bool) (xs : List A) → ((x : A) → f x ≡ g x) → any f xs ≡ any g xs
any_same f g [] h = refl
any_same f g (x ∷ xs) h = rw (h x, any_same f g xs h)

pub any_map : {A B : Type 0} (f : B → Bool) (g : A → B) (xs : List A) → any f (map g xs) ≡ any (λ (x : A). f (g x)) xs
any_map f g [] = refl
any_map f g (x ∷ xs) = rw (any_map f g xs)

-- one element more of the list is passed
pub any_step : {A : Type 0} (f : A → Bool) (xs : List A) (i : ℕ) (d : A) → i < length xs → any f (drop i xs) ≡ (f (get_or xs i d) || any f (drop (i + 1) xs))
any_step f xs i d l = rw (drop-cons xs i d l, add-one, any_cons f)

-- a loop over the list: it stops at an element that passes, and goes on at one that does not
module _ {A : Type 0} (f : A → Bool) (xs : List A) (i : ℕ) (d : A) (l : i < length xs) where
  pub any_stop : f (get_or xs i d) ≡ true → any f (drop i xs) ≡ true
  any_stop h = any_step f xs i d l ∙ rw h

  pub any_go : f (get_or xs i d) ≡ false → any f (drop i xs) ≡ any f (drop (i + 1) xs)
  any_go h = any_step f xs i d l ∙ rw h

pub any_end : {A : Type 0} (f : A → Bool) (xs : List A) (i : ℕ) → i ≡ length xs → any f (drop i xs) ≡ false
any_end {A} f xs i e = ap (λ (l : List A). any f l) (ap (λ (k : ℕ). drop k xs) e ∙ drop-length xs) ∙ any_nil f

-- of elements of which at most one, at index j, passes
module _ {A : Type 0} (f : A → Bool) where
  any_at : (xs : List A) (j : ℕ) (d : A) → j < length xs → f (get_or xs j d) ≡ true → any f xs ≡ true
  any_at [] j d l h = absurd (omega arith)
  any_at (x ∷ xs) zero d l h = rw h
  any_at (x ∷ xs) (suc j) d l h = or_right (f x) (any f xs) (any_at xs j d (omega arith) h)

  pub any_off : (xs : List A) (d : A) → ((k : ℕ) → k < length xs → f (get_or xs k d) ≡ true → ⊥) → false ≡ any f xs
  any_off [] d h = refl
  any_off (x ∷ xs) d h = on_test (f x)
      (λ t. absurd (h 0 (omega arith) t))
      (λ t. rw t (any_off xs d (λ k l. h (suc k) (omega arith))))

  pub any_one : (xs : List A) (j : ℕ) (d : A) → j < length xs → ((k : ℕ) → k < length xs → f (get_or xs k d) ≡ true → k ≡ j) → f (get_or xs j d) ≡ any f xs
  any_one xs j d l h = on_test (f (get_or xs j d))
      (λ t. t ∙ sym (any_at xs j d l t))
      (λ t. t ∙ any_off xs d (λ k m e. true_false (sym e ∙ ap (λ (i : ℕ). f (get_or xs i d)) (h k m e) ∙ t)))

module _ (f : ℕ → Bool) where
  -- a test that some number of a list passes is passed by one that stands in it, and the reverse
  any_finds : (l : List ℕ) → any f l ≡ true → (b : ℕ) × (memb b l ≡ true) × (f b ≡ true)
  any_finds [] h = absurd (true_false (sym h))
  any_finds (x ∷ l) h =
      on_test (f x)
      (λ e. (x, rw (eq-eqb x x refl), e))
      (λ e. let s = any_finds l (rw e at h) in (s.0, or_right (eqb s.0 x) (memb s.0 l) s.1, s.2))

  any_holds : (l : List ℕ) (b : ℕ) → memb b l ≡ true → f b ≡ true → any f l ≡ true
  any_holds [] b m h = m
  any_holds (x ∷ l) b m h =
      on_test (eqb b x)
      (λ e. let s : f x ≡ true = ap f (sym (eqb-true b x e)) ∙ h in rw s)
      (λ e. or_right (f x) (any f l) (any_holds l b (rw e at m) h))

  -- lists with the same members pass the same tests
  pub any_members : (l m : List ℕ) → ((b : ℕ) → memb b l ≡ memb b m) → any f l ≡ any f m
  any_members l m e = same_test (any f l) (any f m) (λ h. go l m e h) (λ h. go m l (λ b. sym (e b)) h)
    where
      go : (l m : List ℕ) → ((b : ℕ) → memb b l ≡ memb b m) → any f l ≡ true → any f m ≡ true
      go l m e h = let s = any_finds l h in any_holds m s.0 (sym (e s.0) ∙ s.1) s.2
