-- A buffer filled with a block for each element of a list.
-- Assumes nothing.
use Prim.Native.Nat.{ℕ, ◌+◌, ◌*◌, ◌≤◌, ◌<◌}
use mathlib.Core.Path.{◌≡◌, refl, sym, ◌∙◌, ap}
use mathlib.Core.List.{List, [], ◌∷◌, ◌++◌, map, append_assoc, append-nil}
use native.Mathlib.Omega.{arith}
use native.Mathlib.Numerals.{add-one}
use native.Mathlib.Nat.{mul-zero, mul-suc, mul-le-mul_left}
use lib.ListN.{length, get_or, take, drop, length-append, length-drop}
use lib.Seq.{sets, sets-eq, take-suc, take-length, take_at, drop_at, drop-length, drop-drop, length-take-le}
use lib.IntN.{ℤ}
use Rattle.common.specs.Lists.{concat}

-- the blocks of a list
abbrev pub blocks : {A : Type 0} → (A → List ℤ) → List A → List ℤ
blocks f xs = concat (map f xs)

blocks_more : {A : Type 0} (f : A → List ℤ) (xs : List A) (y : A) → blocks f (xs ++ (y ∷ [])) ≡ blocks f xs ++ f y
unfolding concat
blocks_more f [] y = append-nil (f y)
blocks_more f (x ∷ xs) y = rw (blocks_more f xs y) (sym (append_assoc (f x) (blocks f xs) (f y)))

-- the blocks of the first i, and the rest of a buffer as it was
abbrev pub filled_to : {A : Type 0} → (A → List ℤ) → ℕ → List A → List ℤ → ℕ → List ℤ
filled_to f size xs before i = blocks f (take i xs) ++ drop (size * i) before

module _ {A : Type 0} (f : A → List ℤ) (size : ℕ) (even : (x : A) → length (f x) ≡ size) where
  blocks_length : (xs : List A) → length (blocks f xs) ≡ size * length xs
  unfolding concat
  blocks_length [] = omega arith
  blocks_length (x ∷ xs) =
      let a = even x in
      let b = blocks_length xs in
      length-append (f x) (blocks f xs) ∙ rw (a, b, mul-suc size (length xs)) (omega arith)

  module _ (xs : List A) (before : List ℤ) (fits : length before ≡ size * length xs) where
    abbrev at : ℕ → List ℤ
    at i = filled_to f size xs before i

    pub filled_none : before ≡ at 0
    unfolding concat
    filled_none = rw (mul-zero size)

    -- the first i blocks
    front_length : (i : ℕ) → i ≤ length xs → length (blocks f (take i xs)) ≡ size * i
    front_length i l = blocks_length (take i xs) ∙ ap (λ (n : ℕ). size * n) (length-take-le i xs l)

    room : (i : ℕ) → i ≤ length xs → size * i ≤ length before
    room i l = rw fits (mul-le-mul_left size l)

    pub filled_length : (i : ℕ) → i ≤ length xs → length (at i) ≡ length before
    filled_length i l =
        let a = front_length i l in
        let b = length-drop (size * i) before in
        let r = room i l in
        length-append (blocks f (take i xs)) (drop (size * i) before) ∙ omega arith

    next : (i : ℕ) → size * i + size ≡ size * (i + 1)
    next i = rw (add-one i, mul-suc size i)

    pub filled_more : (i : ℕ) (d : A) → i < length xs → sets (at i) (size * i) (f (get_or xs i d)) ≡ at (i + 1)
    filled_more i d l =
        let w = f (get_or xs i d) in
        let p = blocks f (take i xs) in
        let a = front_length i (omega arith) in
        let b = even (get_or xs i d) in
        let r = room (i + 1) (omega arith) in
        let n = next i in
        let k = filled_length i (omega arith) in
        let m : drop (size * i + length w) (at i) ≡ drop (size * (i + 1)) before
        = rw (b, sym (drop-drop size (size * i) (at i)), drop_at p (drop (size * i) before) (size * i) a, drop-drop size (size * i) before, n) refl in
        let q : p ++ w ≡ blocks f (take (i + 1) xs)
        = rw (add-one i, take-suc xs i d l) (sym (blocks_more f (take i xs) (get_or xs i d))) in
        sets-eq w (at i) (size * i) (omega arith) ∙ rw (take_at p (drop (size * i) before) (size * i) a, m, q) refl

    pub filled_all : (i : ℕ) → i ≡ length xs → at i ≡ blocks f xs
    filled_all i e = rw (e, take-length xs, sym fits, drop-length before) (append-nil (blocks f xs))
