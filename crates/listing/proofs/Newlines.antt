-- The lines' numbers.
-- Assumes nothing.
use Prim.Native.Nat.{ℕ, suc, ◌+◌, ◌≤◌, ◌<◌}
use mathlib.Core.Path.{◌≡◌, refl}
use mathlib.Core.Bool.{Bool, true, false, cond}
use mathlib.Core.List.{List, [], ◌∷◌, ◌++◌}
use native.Mathlib.Omega.{arith}
use lib.ListN.{length, take}
use lib.Dec.{eqb}
use Rattle.std.proofs.lemmas.List.Sums.{sum_by-append, sum_by-cons, count_by-le-length}
use Rattle.lines.specs.Line.{newline}
use Rattle.listing.specs.Pieces.{newlines}
use Rattle.listing.specs.code.Lengths.{line_length}

pub newlines_few : (s : List ℕ) → newlines s ≤ length s
newlines_few s = count_by-le-length (λ b. eqb b newline) s

pub newlines_both : (s t : List ℕ) → newlines (s ++ t) ≡ newlines s + newlines t
newlines_both s t = sum_by-append (λ b. cond (eqb b newline) 1 0) s t

newlines_on : (b : ℕ) (bs : List ℕ) → newlines (b ∷ bs) ≡ cond (eqb b newline) 1 0 + newlines bs
newlines_on b bs = sum_by-cons (λ b. cond (eqb b newline) 1 0) b bs

-- a line behind which bytes stand has one newline
first_newline : (t : Bool) (b : ℕ) (bs : List ℕ) → eqb b newline ≡ t → (line_length bs < length bs → newlines (take (line_length bs) bs) ≡ 1)
    → cond t 1 (suc (line_length bs)) < suc (length bs) → newlines (take (cond t 1 (suc (line_length bs))) (b ∷ bs)) ≡ 1
first_newline true b bs e h l = rw e
first_newline false b bs e h l = let i = h (omega arith) in let n = rw e at (newlines_on b (take (line_length bs) bs)) in omega arith

pub line_newline : (s : List ℕ) → line_length s < length s → newlines (take (line_length s) s) ≡ 1
line_newline [] h = absurd (omega arith)
line_newline (b ∷ bs) h = first_newline (eqb b newline) b bs refl (line_newline bs) h
