-- Lines and fields found by a position.
-- Assumes nothing.
use Prim.Native.Nat.{ℕ, zero, suc, ◌+◌, ◌≤◌, ◌<◌}
use mathlib.Core.Path.{◌≡◌, refl}
use mathlib.Core.Bool.{Bool, true, false, cond}
use mathlib.Core.List.{List, [], ◌∷◌}
use native.Mathlib.Omega.{arith}
use lib.ListN.{length, get_or, take, drop, length-drop}
use lib.Dec.{eqb}
use borrow.Author.Tests.{eq-eqb, ne_eqb, eqb-true}
use Rattle.lines.specs.Line.{newline}
use Rattle.listing.specs.Calls.{lines_of}
use Rattle.listing.specs.code.Lengths.{line_length}

-- the first line and the lines behind it
lines_here : (t : Bool) (b : ℕ) (bs : List ℕ) → eqb b newline ≡ t → lines_of bs ≡ take (line_length bs) bs ∷ lines_of (drop (line_length bs) bs)
    → lines_of (b ∷ bs) ≡ take (cond t 1 (suc (line_length bs))) (b ∷ bs) ∷ lines_of (drop (cond t 1 (suc (line_length bs))) (b ∷ bs))
unfolding lines_of
lines_here true b bs e h = let n = eqb-true b newline e in rw (e, n)
lines_here false b bs e h = rw (e, h)

lines_last : (t : Bool) (b : ℕ) → eqb b newline ≡ t → lines_of (b ∷ []) ≡ take (cond t 1 1) (b ∷ []) ∷ lines_of (drop (cond t 1 1) (b ∷ []))
unfolding lines_of
lines_last true b e = let n = eqb-true b newline e in rw (e, n)
lines_last false b e = rw e

pub lines_step : (s : List ℕ) → 0 < length s → lines_of s ≡ take (line_length s) s ∷ lines_of (drop (line_length s) s)
lines_step [] h = absurd (omega arith)
lines_step (b ∷ []) h = lines_last (eqb b newline) b refl
lines_step (b ∷ a ∷ s) h = lines_here (eqb b newline) b (a ∷ s) refl (lines_step (a ∷ s) (omega arith))

-- the first newline ends the line
pub line_to : (s : List ℕ) (k : ℕ) → k < length s → get_or s k 0 ≡ newline → ((j : ℕ) → j < k → get_or s j 0 ≡ newline → ⊥) → line_length s ≡ suc k
line_to [] k l e h = absurd (omega arith)
line_to (b ∷ bs) zero l e h = rw (eq-eqb b newline e)
line_to (b ∷ bs) (suc k) l e h = rw (ne_eqb b newline (h 0 (omega arith)), line_to bs k (omega arith) e (λ j m. h (suc j) (omega arith)))

pub line_last : (s : List ℕ) → ((j : ℕ) → j < length s → get_or s j 0 ≡ newline → ⊥) → line_length s ≡ length s
line_last [] h = refl
line_last (b ∷ bs) h = rw (ne_eqb b newline (h 0 (omega arith)), line_last bs (λ j m. h (suc j) (omega arith)))

-- a line is not empty and ends within the bytes
line_some : (t : Bool) (m n : ℕ) → m ≤ n → (0 < cond t 1 (suc m)) × (cond t 1 (suc m) ≤ suc n)
line_some true m n h = omega arith
line_some false m n h = omega arith

line_le : (s : List ℕ) → line_length s ≤ length s
line_le [] = omega arith
line_le (b ∷ bs) = (line_some (eqb b newline) (line_length bs) (length bs) (line_le bs)).1

line_pos : (s : List ℕ) → 0 < length s → 0 < line_length s
line_pos [] h = absurd (omega arith)
line_pos (b ∷ bs) h = (line_some (eqb b newline) (line_length bs) (length bs) (line_le bs)).0

pub line_inside : (s : List ℕ) (at e : ℕ) → at < length s → e ≡ at + line_length (drop at s) → (at < e) × (e ≤ length s)
line_inside s at e h q =
    let d = length-drop at s in
    let a = line_le (drop at s) in
    let b = line_pos (drop at s) (omega arith) in
    omega arith
