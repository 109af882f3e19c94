-- Decimal numbers read from bytes.
-- Assumes nothing.
use Prim.Native.Nat.{ℕ, zero, suc, ◌+◌, ◌*◌, ◌-◌, ◌^◌, ◌≤◌, ◌<◌}
use mathlib.Core.Path.{◌≡◌, refl, sym, ◌∙◌, ap}
use mathlib.Core.Bool.{Bool, true, false, not, ◌&&◌, ◌||◌}
use mathlib.Core.List.{List, [], ◌∷◌}
use native.Mathlib.Omega.{arith}
use native.Mathlib.Numerals.{add-one}
use native.Mathlib.Nat.{mul-le-mul_right, mul_assoc, mul_comm, pow-suc, pow-le-pow_right, zero-lt-suc, le_trans, le_of_eq}
use lib.ListN.{length, get_or, drop}
use lib.Seq.{drop-cons, drop-length}
use lib.Dec.{eqb, leb}
use borrow.Author.Tests.{eq-eqb, ne_eqb, le-leb, lt-leb, leb-true}
use Rattle.std.specs.List.{list_all}
use Rattle.listing.specs.Calls.{is_digit, is_number, value_from, value}

-- the shape of a number, by cases
module _ (most : ℕ) (l : List ℕ) where
  pub number_empty : length l ≡ 0 → false ≡ is_number most l
  unfolding is_number
  number_empty h = rw (lt-leb 1 (length l) (omega arith))

  pub number_long : most < length l → false ≡ is_number most l
  unfolding is_number
  number_long h = rw (le-leb 1 (length l) (omega arith), lt-leb (length l) most h)

  pub number_letter : 0 < length l → length l ≤ most → list_all is_digit l ≡ false → false ≡ is_number most l
  unfolding is_number
  number_letter a b e = rw (le-leb 1 (length l) (omega arith), le-leb (length l) most b, e)

  pub number_one : length l ≡ 1 → length l ≤ most → list_all is_digit l ≡ true → true ≡ is_number most l
  unfolding is_number
  number_one a b e = rw (le-leb 1 (length l) (omega arith), le-leb (length l) most b, e, eq-eqb (length l) 1 a)

  pub number_more : 1 < length l → length l ≤ most → list_all is_digit l ≡ true → not (eqb (get_or l 0 0) 48) ≡ is_number most l
  unfolding is_number
  number_more a b e = rw (le-leb 1 (length l) (omega arith), le-leb (length l) most b, e, ne_eqb (length l) 1 (λ z. omega arith))

-- what the shape tells
both : (a b : Bool) → (a && b) ≡ true → (a ≡ true) × (b ≡ true)
both true b e = (refl, e)
both false b e = absurd (let z : ◌≡◌ {A = ℕ} 0 1 = cc in omega arith)

module _ (most : ℕ) (l : List ℕ) (h : is_number most l ≡ true) where
  shape : ((leb 1 (length l) && leb (length l) most) && list_all is_digit l) ≡ true
  unfolding is_number
  shape = (both ((leb 1 (length l) && leb (length l) most) && list_all is_digit l) (eqb (length l) 1 || not (eqb (get_or l 0 0) 48)) h).0

  pub number_digits : list_all is_digit l ≡ true
  number_digits = (both (leb 1 (length l) && leb (length l) most) (list_all is_digit l) shape).1

  pub number_short : length l ≤ most
  number_short =
      leb-true (length l) most (both (leb 1 (length l)) (leb (length l) most) (both (leb 1 (length l) && leb (length l) most) (list_all is_digit l) shape).0).1

pub digit_at : (l : List ℕ) (i : ℕ) → list_all is_digit l ≡ true → i < length l → (48 ≤ get_or l i 0) × (get_or l i 0 ≤ 57)
digit_at [] i h l = absurd (omega arith)
digit_at (b ∷ bs) zero h l =
    let d = (both (is_digit b) (list_all is_digit bs) h).0 in
    let t = both (leb 48 b) (leb b 57) d in
    (leb-true 48 b t.0, leb-true b 57 t.1)
digit_at (b ∷ bs) (suc i) h l = digit_at bs i (both (is_digit b) (list_all is_digit bs) h).1 (omega arith)

-- the value of the digits
pub value_on : (s : List ℕ) (n i : ℕ) → i < length s → value_from n (drop i s) ≡ value_from (n * 10 + (get_or s i 0 - 48)) (drop (i + 1) s)
unfolding value_from
value_on s n i l = rw (drop-cons s i 0 l, add-one)

pub value_none : (s : List ℕ) (n i : ℕ) → i ≡ length s → value_from n (drop i s) ≡ n
unfolding value_from
value_none s n i e = rw (e, drop-length)

pub value_ge : (l : List ℕ) (n : ℕ) → n ≤ value_from n l
unfolding value_from
value_ge [] n = omega arith
value_ge (b ∷ bs) n = let r = value_ge bs (n * 10 + (b - 48)) in omega arith

value_lt : (l : List ℕ) (n : ℕ) → list_all is_digit l ≡ true → suc (value_from n l) ≤ suc n * 10 ^ length l
unfolding value_from
value_lt [] n h = omega arith
value_lt (b ∷ bs) n h =
    let d = digit_at (b ∷ bs) 0 h (omega arith) in
    let m = n * 10 + (b - 48) in
    let r = value_lt bs m (both (is_digit b) (list_all is_digit bs) h).1 in
    let k : suc m ≤ suc n * 10 = omega arith in
    let e : suc n * 10 * 10 ^ length bs ≡ suc n * 10 ^ suc (length bs) =
    mul_assoc (suc n) 10 (10 ^ length bs) ∙ ap (λ (x : ℕ). suc n * x) (mul_comm 10 (10 ^ length bs) ∙ sym (pow-suc 10 (length bs))) in
    le_trans r (le_trans (mul-le-mul_right (10 ^ length bs) k) (le_of_eq e))

pub value_below : (most : ℕ) (l : List ℕ) → is_number most l ≡ true → value l < 10 ^ most
value_below most l h =
    let r = value_lt l 0 (number_digits most l h) in
    let p : 10 ^ length l ≤ 10 ^ most = pow-le-pow_right (zero-lt-suc 9) (number_short most l h) in
    omega arith

pub number_wider : (most : ℕ) (l : List ℕ) → most ≤ 19 → is_number most l ≡ true → is_number 19 l ≡ true
unfolding is_number
number_wider most l b h =
    let n = number_short most l h in
    rw (le-leb (length l) 19 (omega arith)) (rw (le-leb (length l) most n) at h)
