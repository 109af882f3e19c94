-- Parts of a column: the fields of records that stand one behind the other.
-- Assumes nothing.
use Prim.Native.Nat.{ℕ, ◌+◌, ◌-◌}
use mathlib.Core.Path.{◌≡◌, refl, ◌∙◌, ap}
use mathlib.Core.List.{List, [], ◌∷◌, ◌++◌, map, append_assoc}
use native.Mathlib.Omega.{arith}
use lib.ListN.{length, get_or, take, drop, replicate, length-map}
use lib.Seq.{take_at, drop_at, get_or-append-add}
use Rattle.deck.specs.code.Table.{column, part}

pub map_join : (f : ℕ → ℕ) (xs ys : List ℕ) → map f (xs ++ ys) ≡ map f xs ++ map f ys
map_join f [] ys = refl
map_join f (x ∷ xs) ys = ap (λ (l : List ℕ). f x ∷ l) (map_join f xs ys)

module _ (f : ℕ → ℕ) (l r : List ℕ) where
  -- what stands behind l
  behind : column f (l ++ r) ≡ map f l ++ (map f r ++ replicate (4096 - length (map f (l ++ r))) 0)
  behind = ap (λ (x : List ℕ). x ++ replicate (4096 - length (map f (l ++ r))) 0) (map_join f l r) ∙ append_assoc (map f l) (map f r) _

  pub column_drop : drop (length l) (column f (l ++ r)) ≡ map f r ++ replicate (4096 - length (map f (l ++ r))) 0
  column_drop = ap (drop (length l)) behind ∙ drop_at (map f l) _ (length l) (length-map l f)

module _ (f : ℕ → ℕ) (l : List ℕ) where
  pub column_first : (x : ℕ) (r : List ℕ) → get_or (column f (l ++ (x ∷ r))) (length l) 0 ≡ f x
  column_first x r =
      let e : length l ≡ length (map f l) + 0 = (let n = length-map l f in omega arith) in
      rw (behind f l (x ∷ r)) (ap (λ (i : ℕ). get_or (map f l ++ (map f (x ∷ r) ++ replicate (4096 - length (map f (l ++ (x ∷ r)))) 0)) i 0) e
      ∙ get_or-append-add (map f l) (map f (x ∷ r) ++ replicate (4096 - length (map f (l ++ (x ∷ r)))) 0) 0 0)

  pub column_part : (m r : List ℕ) → part (length l) (length l + length m) (column f (l ++ (m ++ r))) ≡ map f m
  column_part m r =
      let e : length l + length m - length l ≡ length m = omega arith in
      rw (column_drop f l (m ++ r), e)
      (ap (λ (x : List ℕ). take (length m) (x ++ replicate (4096 - length (map f (l ++ (m ++ r)))) 0)) (map_join f m r)
      ∙ ap (take (length m)) (append_assoc (map f m) (map f r) (replicate (4096 - length (map f (l ++ (m ++ r)))) 0)) ∙ take_at (map f m) _ (length m) (length-map m f))
