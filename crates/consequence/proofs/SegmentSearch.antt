-- The segment of a padded offset is the last that does not begin behind it.
-- Assumes nothing.
use Rattle.std.proofs.Common.{ℕ, zero, suc, ◌+◌, ◌-◌, ◌≤◌, ◌<◌, ◌≡◌, ◌∙◌, ap, max, true, false, List, length, take, drop, get_or, leb, leb-true, leb-false, ltb, ltb-true, ltb-false, arith}
use Rattle.std.proofs.lemmas.List.{get_or-take, length-take, length-drop}
use Rattle.std.proofs.lemmas.Grind.{get_or_after_one, get_or_default_zero}
use Rattle.std.proofs.lemmas.List.Sorted.{IsPartitionedBy-leb, IsNonDecreasingBy-from_all_adjacent}
use Rattle.std.specs.List.Sorted.{IsPartitionedBy, IsPartitionPoint}
use Rattle.common.proofs.TestParts.{on_test}
use Rattle.consequence.specs.code.Segments.{Rising, Held}

module _ (sums : List ℕ) (count k : ℕ) (some : 0 < count) (reach : count < length sums) where
  -- the sums at which a segment but the first begins
  abbrev behind : List ℕ
  behind = take (count - 1) (drop 1 sums)

  many : length behind ≡ count - 1
  many = let t = length-take (count - 1) (drop 1 sums) in let d = length-drop 1 sums in omega arith

  behind_at : (i j d : ℕ) → i < count - 1 → 1 + i ≡ j → get_or behind i d ≡ get_or sums j 0
  behind_at i j d l e =
      get_or-take (count - 1) (drop 1 sums) i d l
      ∙ get_or_after_one sums i d
      ∙ get_or_default_zero sums (1 + i) d (omega arith)
      ∙ ap (λ (n : ℕ). get_or sums n 0) e

  pub parted : Rising sums count → IsPartitionedBy (λ (s : ℕ). leb s k) behind
  parted up =
      let m = many in
      IsPartitionedBy-leb (λ (s : ℕ). s) behind k
      (IsNonDecreasingBy-from_all_adjacent (λ (s : ℕ). s) behind
      (λ i d l.
      let a = behind_at i (i + 1) d (omega arith) (omega arith) in
      let b = behind_at (i + 1) (i + 1 + 1) d (omega arith) (omega arith) in
      let u = up (i + 1) (omega arith) in
      omega arith))

  -- what the search finds
  abbrev Found : ℕ → Type 0
  Found i = IsPartitionPoint (λ (s : ℕ). leb s k ≡ true) (λ (s : ℕ). leb s k ≡ false) behind i

  from : (i : ℕ) → i ≤ length behind → Found i → get_or sums i 0 ≤ max k (get_or sums 0 0)
  from zero l p = omega arith
  from (suc i) l p =
      let m = many in
      let a = behind_at i (suc i) 0 (omega arith) (omega arith) in
      let b = leb-true _ k (p.0 i 0 (omega arith) (omega arith)) in
      omega arith

  to : (i : ℕ) → i ≤ length behind → Found i → k < get_or sums count 0 → k < get_or sums (i + 1) 0
  to i l p below =
      let m = many in
      on_test (ltb i (count - 1))
      (λ e. (let u = ltb-true i (count - 1) e in
      let a = behind_at i (i + 1) 0 u (omega arith) in
      let b = leb-false _ k (p.1 i 0 (omega arith) (omega arith)) in
      omega arith))
      (λ e. (let u = ltb-false i (count - 1) e in
      let c : count ≡ i + 1 = omega arith in
      rw c at below))

  pub held_at : (i : ℕ) → i ≤ length behind → k < get_or sums count 0 → Found i → Held sums count k i
  held_at i l below p = let m = many in record { index = omega arith; from = from i l p; to = to i l p below }
