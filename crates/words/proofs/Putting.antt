-- Numbers put into a buffer.
-- Assumes nothing.
use Prim.Native.Nat.{ℕ, suc, ◌+◌, ◌≤◌}
use Rattle.std.specs.Prelude.{set}
use mathlib.Core.Path.{◌≡◌, sym, ◌∙◌, ap}
use mathlib.Core.List.{List, [], ◌∷◌, ◌++◌, append-nil, append_assoc}
use native.Mathlib.Omega.{arith}
use lib.ListN.{length, take, drop}
use lib.Seq.{sets, sets-eq, drop-length, drop-drop}
use lib.IntN.{ℤ}
use borrow.Rule.Slice.PartMut.{put_mid}

-- words copied into a part of their length
pub put_part : (l xs : List ℤ) (i k : ℕ) → k ≡ length xs → i + length xs ≤ length l → put_mid i k l xs ≡ sets l i xs
put_part l xs i k e h = rw (e, drop-drop (length xs) i l) (sym (sets-eq xs l i h ∙ append_assoc (take i l) xs (drop (i + length xs) l)))

-- words put behind others
pub put_behind : (l xs ys : List ℤ) (i j : ℕ) → j ≡ i + length xs → sets (sets l i xs) j ys ≡ sets l i (xs ++ ys)
put_behind l [] ys i j e = let z : j ≡ i = omega arith in ap (λ (k : ℕ). sets l k ys) z
put_behind l (x ∷ xs) ys i j e = put_behind (set l i x) xs ys (suc i) j (omega arith)

-- words stored in a buffer of their length
pub whole : (before words : List ℤ) → length words ≡ length before → sets before 0 words ≡ words
whole before words e =
    let z : 0 + length words ≡ length before = omega arith in
    sets-eq words before 0 (omega arith) ∙ rw (z, drop-length before) (append-nil words)
