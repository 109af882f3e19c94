-- The coding base at a padded offset, from the segment that holds it and the cumulative lengths.
-- Assumes nothing.
use Prim.Native.Nat.{ℕ, zero, suc, ◌+◌, ◌-◌, ◌≤◌, ◌<◌}
use mathlib.Core.Path.{◌≡◌, sym, ◌∙◌, ap}
use mathlib.Core.Bool.{cond}
use mathlib.Core.List.{List, [], ◌∷◌, map}
use native.Mathlib.Omega.{arith}
use native.Mathlib.Numerals.{add-one}
use lib.ListN.{length, get_or, length-map}
use lib.Dec.{ltb}
use borrow.Author.Tests.{lt-ltb, le-ltb, ltb-true, ltb-false}
use Rattle.common.proofs.TestParts.{on_test}
use Rattle.transcript.specs.declared.Strand.{Strand}
use Rattle.transcript.specs.declared.Strand.TheVariants.{Minus}
use Rattle.transcript.specs.Limits.{coordinate_limit}
use Rattle.transcript.specs.Transcript.{exons_of}
use Rattle.transcript.specs.Orient.{Interval, orient, orient_base}
use Rattle.transcript.specs.Bases.{size}
use Rattle.transcript.proofs.Listed.{nowhere, edges_at}
use Rattle.locate.specs.Index.{cumulative}
use Rattle.transcript.specs.code.Lent.{lent_exons}
use Rattle.locate.specs.code.Search.{Ready}
use Rattle.locate.specs.code.Sums.{first_sum, Sums}
use Rattle.locate.proofs.PrefixSums.{cumulative_first, cumulative_next, sizes_at}
use Rattle.locate.proofs.LentIndex.{sizes_turned}
use Rattle.locate.proofs.Searching.{count}
use Rattle.locate.specs.Place.{coding_position}
use Rattle.consequence.specs.code.Segments.{Segments, Rising, Held}

-- base d of [s, e) on the minus strand
pub nth_minus : (s e d : ℕ) → d < e - s → e ≤ coordinate_limit → orient_base Minus ((orient Minus s e).start + d) ≡ e - 1 - d
nth_minus s e d h l = omega arith

cumulative_from : (first : ℕ) (ns : List ℕ) (k : ℕ) → k ≤ length ns → first ≤ get_or (cumulative first ns) k 0
unfolding cumulative
cumulative_from first [] zero l = omega arith
cumulative_from first [] (suc k) l = absurd (omega arith)
cumulative_from first (n ∷ ns) zero l = omega arith
cumulative_from first (n ∷ ns) (suc k) l = let r = cumulative_from (first + n) ns k (omega arith) in omega arith

position_at : (first : ℕ) (xs : List Interval) (i k : ℕ) → i < length xs → get_or (cumulative first (map size xs)) i 0 ≤ k → k < get_or (cumulative first (map size xs)) (suc i) 0
    → coding_position xs (k - first) ≡ (get_or xs i nowhere).start + (k - get_or (cumulative first (map size xs)) i 0)
unfolding cumulative coding_position
position_at first [] i k l a b = absurd (omega arith)
position_at first (x ∷ xs) zero k l a b =
    let f = cumulative_first (first + size x) (map size xs) in
    rw (lt-ltb (k - first) (size x) (omega arith))
position_at first (x ∷ xs) (suc i) k l a b =
    let n = length-map xs size in
    let f = cumulative_from (first + size x) (map size xs) i (omega arith) in
    rw (le-ltb (k - first) (size x) (omega arith))
    (ap (coding_position xs) (less k first (size x)) ∙ position_at (first + size x) xs i k (omega arith) a b)
  where
    less : (k f n : ℕ) → k - f - n ≡ k - (f + n)
    less k f n = omega arith

module _ (xs : List Interval) (sums : List ℕ) (s : Sums xs sums) where
  -- the base at a padded offset that segment i holds
  pub coding_at : (i k : ℕ) → i < length xs → get_or sums i 0 ≤ k → k < get_or sums (i + 1) 0 → coding_position xs (k - first_sum sums) ≡ (get_or xs i nowhere).start + (k - get_or sums i 0)
  coding_at i k l a b =
      let e = s.are i (omega arith) in
      let f = s.are (suc i) (omega arith) in
      let u : k < get_or sums (suc i) 0 = rw add-one at b in
      position_at (first_sum sums) xs i k l (omega arith) (omega arith) ∙ ap (λ (n : ℕ). (get_or xs i nowhere).start + (k - n)) (sym e)

  sum_next : (i : ℕ) → i < length xs → get_or sums (i + 1) 0 ≡ get_or sums i 0 + get_or (map size xs) i 0
  sum_next i l =
      let n = length-map xs size in
      let e = s.are i (omega arith) in
      let f = s.are (suc i) (omega arith) in
      rw add-one (f ∙ cumulative_next (first_sum sums) (map size xs) i (omega arith) ∙ ap (λ (n : ℕ). n + get_or (map size xs) i 0) (sym e))

module _ (σ : Strand) (gs ge sums : List ℕ) (pad : ℕ) (r : Ready σ gs ge) (s : Segments (lent_exons σ gs ge) sums pad) where
  next_sum : (i : ℕ) → i < length gs → get_or sums (i + 1) 0 ≡ get_or sums i 0 + (get_or ge i 0 - get_or gs i 0)
  next_sum i l =
      let n = count σ gs ge r in
      sum_next (lent_exons σ gs ge) sums s.summed i (omega arith)
      ∙ ap (λ (m : ℕ). get_or sums i 0 + m) (ap (λ (l : List ℕ). get_or l i 0) (sizes_turned σ (exons_of gs ge) r.edges) ∙ sizes_at gs ge i r.even l)

  pub rises : Rising sums (length gs)
  rises i l = let n = next_sum i l in omega arith

  -- there is a sum behind each segment
  pub reach : length gs < length sums
  reach = let n = count σ gs ge r in let l = s.summed.reach in omega arith

  -- a padded offset k that segment i holds
  module _ (k i : ℕ) (h : Held sums (length gs) k i) where
    pub sum_le : pad ≤ k → get_or sums i 0 ≤ k
    sum_le l = let f = h.from in let q = s.pad_is in omega arith

    pub base_is : pad ≤ k → coding_position (lent_exons σ gs ge) (k - pad) ≡ (get_or (lent_exons σ gs ge) i nowhere).start + (k - get_or sums i 0)
    base_is l =
        let n = count σ gs ge r in
        let x = h.index in
        ap (λ (f : ℕ). coding_position (lent_exons σ gs ge) (k - f)) s.pad_is
        ∙ coding_at (lent_exons σ gs ge) sums s.summed i k (omega arith) (sum_le l) h.to

    -- the next offset lies in the same segment or in the next
    pub held_next : (m j : ℕ) → m ≡ k + 1 → m < get_or sums (length gs) 0 → j ≡ cond (ltb m (get_or sums (i + 1) 0)) i (i + 1) → Held sums (length gs) m j
    held_next m j e l q =
        let x = h.index in let f = h.from in let t = h.to in
        on_test (ltb m (get_or sums (i + 1) 0))
        (λ y. (let u = ltb-true m (get_or sums (i + 1) 0) y in
        let z : j ≡ i = q ∙ rw y in
        rw z record { index = h.index; from = omega arith; to = u }))
        (λ y. (let u = ltb-false m (get_or sums (i + 1) 0) y in
        let z : j ≡ i + 1 = q ∙ rw y in
        let v = later i (length gs) (λ w. (let a = ap (λ (n : ℕ). get_or sums n 0) w in omega arith)) x in
        let n = next_sum (i + 1) v in
        let g = (edges_at gs ge (i + 1) r.edges r.even v).0 in
        rw z record { index = v; from = omega arith; to = omega arith }))
      where
        later : (i n : ℕ) → (i + 1 ≡ n → ⊥) → i < n → i + 1 < n
        later i n f l = omega arith
