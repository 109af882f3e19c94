-- The decimal digits of a number.
-- Assumes nothing.
use Prim.Native.Nat.{ℕ, zero, suc, ◌+◌, ◌-◌, ◌/◌, ◌%◌, ◌≤◌, ◌<◌}
use mathlib.Core.Path.{◌≡◌, refl}
use mathlib.Core.Bool.{Bool, true, false, cond}
use mathlib.Core.List.{List, [], ◌∷◌, ◌++◌}
use native.Mathlib.Omega.{arith}
use lib.ListN.{length, length-append}
use lib.Dec.{ltb}
use borrow.Author.Tests.{lt-ltb, le-ltb}
use Rattle.common.specs.Text.{digits}

pub digits_last : (places n : ℕ) → 0 < places → n < 10 → digits places n ≡ (48 + n) ∷ []
unfolding digits
digits_last zero n h l = absurd (omega arith)
digits_last (suc places) n h l = let e : n % 10 ≡ n = omega arith in rw (lt-ltb n 10 l, e)

pub digits_more : (places n : ℕ) → 0 < places → 10 ≤ n → digits places n ≡ digits (places - 1) (n / 10) ++ ((48 + n % 10) ∷ [])
unfolding digits
digits_more zero n h l = absurd (omega arith)
digits_more (suc places) n h l = let e : suc places - 1 ≡ places = omega arith in rw (le-ltb n 10 l, e)

length_split : (t : Bool) (xs : List ℕ) (d n : ℕ) → length xs ≤ n → length (cond t [] xs ++ (d ∷ [])) ≤ suc n
length_split true xs d n h = omega arith
length_split false xs d n h = let e = length-append xs (d ∷ []) in omega arith

pub digits_length : (places n : ℕ) → length (digits places n) ≤ places
unfolding digits
digits_length zero n = omega arith
digits_length (suc places) n = length_split (ltb n 10) (digits places (n / 10)) (48 + n % 10) places (digits_length places (n / 10))

pub digits_none : (places n : ℕ) → places ≡ 0 → digits places n ≡ []
unfolding digits
digits_none zero n h = refl
digits_none (suc places) n h = absurd (omega arith)
