-- The rows of one kind in a column of kinds.
-- Assumes nothing.
use Prim.Native.Nat.{ℕ, zero, suc, ◌+◌, ◌-◌, ◌≤◌, ◌<◌}
use mathlib.Core.Path.{◌≡◌, refl, sym, ◌∙◌, ap}
use mathlib.Core.Bool.{Bool, true, false, not}
use mathlib.Core.List.{List, [], ◌∷◌, ◌++◌, map}
use native.Mathlib.Omega.{arith}
use lib.ListN.{length, get_or, replicate, length-append, length-map, get_or-append}
use lib.Seq.{get_or-drop}
use lib.Dec.{eqb}
use borrow.Author.Tests.{eq-eqb, ne_eqb, lt-ltb}
use Rattle.common.proofs.Filling.{map_at}
use Rattle.deck.specs.Records.{kind_of, lowest}
use Rattle.deck.specs.code.Table.{column, is_kind, run_end, bounds_end}
use Rattle.deck.proofs.Grown.{Kind}
use Rattle.deck.proofs.ColumnParts.{column_drop}

zeros_at : (n i : ℕ) → ◌≡◌ {A = ℕ} (get_or (replicate n 0) i 0) 0
zeros_at zero i = refl
zeros_at (suc n) zero = refl
zeros_at (suc n) (suc i) = zeros_at n i

kind_at : (d : List ℕ) (k : ℕ) (m : List ℕ) (j : ℕ) → Kind d k m → j < length m → kind_of d (get_or m j 0) ≡ k
kind_at d k [] j h l = absurd (omega arith)
kind_at d k (x ∷ m) zero h l = h.0.0
kind_at d k (x ∷ m) (suc j) h l = kind_at d k m j h.1 (omega arith)

-- the kind of the record in front, 0 where there is none
abbrev pub first_kind : List ℕ → List ℕ → ℕ
first_kind d [] = 0
first_kind d (x ∷ r) = kind_of d x

pub first_other : (d : List ℕ) (j k : ℕ) (m r : List ℕ) → Kind d j m → (j ≡ k → ⊥) → (first_kind d r ≡ k → ⊥) → first_kind d (m ++ r) ≡ k → ⊥
first_other d j k [] r h n o e = o e
first_other d j k (x ∷ m) r h n o e = n (sym h.0.0 ∙ e)

module _ (d l m r : List ℕ) where
  abbrev rows : List ℕ
  rows = column (kind_of d) (l ++ (m ++ r))

  from_l : (j : ℕ) → get_or rows (length l + j) 0 ≡ get_or (map (kind_of d) (m ++ r) ++ replicate (4096 - length (map (kind_of d) (l ++ (m ++ r)))) 0) j 0
  from_l j = sym (get_or-drop (length l) rows j 0) ∙ ap (λ (x : List ℕ). get_or x j 0) (column_drop (kind_of d) l (m ++ r))

  kind_here : (k j : ℕ) → Kind d k m → j < length m → get_or rows (length l + j) 0 ≡ k
  kind_here k j h i =
      let n = length-append m r in
      let q = length-map (m ++ r) (kind_of d) in
      from_l j ∙ get_or-append (map (kind_of d) (m ++ r)) _ 0 j (omega arith)
      ∙ map_at (kind_of d) (m ++ r) j 0 0 (omega arith)
      ∙ ap (kind_of d) (get_or-append m r 0 j i) ∙ kind_at d k m j h i

next_kind : (d m r : List ℕ) (z : ℕ) → get_or (map (kind_of d) (m ++ r) ++ replicate z 0) (length m) 0 ≡ first_kind d r
next_kind d [] [] z = zeros_at z 0
next_kind d [] (x ∷ r) z = refl
next_kind d (y ∷ m) r z = next_kind d m r z

lowest_run : (f : ℕ → Bool) (m n i : ℕ) → m < n → ((j : ℕ) → j < m → f (i + j) ≡ false) → f (i + m) ≡ true → lowest f n i ≡ i + m
unfolding lowest
lowest_run f m zero i l h e = absurd (omega arith)
lowest_run f zero (suc n) i l h e = let q : i + 0 ≡ i = omega arith in let g : f i ≡ true = ap f (sym q) ∙ e in rw g (omega arith)
lowest_run f (suc m) (suc n) i l h e =
    let q : i + 0 ≡ i = omega arith in
    let g : f i ≡ false = ap f (sym q) ∙ h 0 (omega arith) in
    let s : suc i + m ≡ i + suc m = omega arith in
    rw (
      g,
      lowest_run f m n (suc i) (omega arith)
          (λ j k. let u : suc i + j ≡ i + suc j = omega arith in ap f u ∙ h (suc j) (omega arith)) (ap f s ∙ e),
    ) s

module _ (d l m r : List ℕ) (room : length l + length m < 4096) where
  abbrev kinds : List ℕ
  kinds = column (kind_of d) (l ++ (m ++ r))

  behind : get_or kinds (length l + length m) 0 ≡ first_kind d r
  behind = from_l d l m r (length m) ∙ next_kind d m r (4096 - length (map (kind_of d) (l ++ (m ++ r))))

  -- the rows of one kind end where another begins
  pub run_of : (k : ℕ) → Kind d k m → (first_kind d r ≡ k → ⊥) → run_end kinds k (length l) ≡ length l + length m
  run_of k h o =
      lowest_run (λ i. not (eqb (get_or kinds i 0) k)) (length m) (4096 - length l) (length l) (omega arith)
      (λ j i. rw (eq-eqb (get_or kinds (length l + j) 0) k (kind_here d l m r k j h i)))
      (rw (ne_eqb (get_or kinds (length l + length m) 0) k (λ e. o (sym behind ∙ e))))

-- a transcript stands at a row, or none
pub row_of : (d l : List ℕ) (x : ℕ) (r : List ℕ) (k : ℕ) → length l < 4096 → kind_of d x ≡ k → is_kind (column (kind_of d) (l ++ (x ∷ r))) k (length l) ≡ true
row_of d l x r k i e =
    let q : length l + 0 ≡ length l = omega arith in
    let g : get_or (column (kind_of d) (l ++ (x ∷ r))) (length l) 0 ≡ k = rw q at (behind d l [] (x ∷ r) (omega arith) ∙ e) in
    rw (lt-ltb (length l) 4096 i, eq-eqb (get_or (column (kind_of d) (l ++ (x ∷ r))) (length l) 0) k g)

pub row_other : (d l r : List ℕ) (k : ℕ) → length l < 4096 → (first_kind d r ≡ k → ⊥) → get_or (column (kind_of d) (l ++ r)) (length l) 0 ≡ k → ⊥
row_other d l r k i o e =
    let q : length l + 0 ≡ length l = omega arith in
    let g : get_or (column (kind_of d) (l ++ r)) (length l) 0 ≡ first_kind d r = rw q at (behind d l [] r (omega arith)) in
    o (sym g ∙ e)

-- the bounds, if any
pub bounds_of : (d l b r : List ℕ) → length l + length b < 4096 → length b ≤ 1 → Kind d 2 b → (first_kind d r ≡ 2 → ⊥)
    → bounds_end (column (kind_of d) (l ++ (b ++ r))) (length l) ≡ length l + length b
bounds_of d l [] r i few h o =
    rw (ne_eqb (get_or (column (kind_of d) (l ++ r)) (length l) 0) 2 (row_other d l r 2 (omega arith) o), lt-ltb (length l) 4096 (omega arith)) (omega arith)
bounds_of d l (x ∷ []) r i few h o = rw (row_of d l x r 2 (omega arith) h.0.0)
bounds_of d l (x ∷ y ∷ b) r i few h o = absurd (omega arith)
