-- Sums stored from a row of a column on: what stands before them is kept, and they are read from their row on.
-- Assumes nothing.
use Prim.Native.Nat.{ℕ, ◌+◌, ◌≤◌, ◌<◌}
use mathlib.Core.Path.{◌≡◌, refl, sym, ◌∙◌, ap}
use mathlib.Core.Bool.{Bool, true, false, cond}
use mathlib.Core.List.{List, map}
use native.Mathlib.Omega.{arith}
use lib.ListN.{length, get_or, drop, length-drop, length-map}
use lib.Seq.{length-sets, get_or-drop}
use Rattle.common.specs.Stored.{stored}
use Rattle.common.proofs.Stored.{stored_at, stored_off}
use Rattle.transcript.specs.Transcript.{Transcript}
use Rattle.transcript.specs.Orient.{Interval, oriented}
use Rattle.transcript.specs.Bases.{size}
use Rattle.locate.specs.Index.{cumulative}
use Rattle.locate.specs.code.Sums.{first_sum, Sums}
use Rattle.locate.proofs.PrefixSums.{cumulative_length}
use Rattle.locate.proofs.Offset.{first_sum_lem, sums_of}
use Rattle.pieces.specs.code.TableIndex.{row_sums}

-- sums of which nothing changed before row k
pub record KeptBelow (k : ℕ) (before after : List ℕ) : Type 0 where
  pub count : length after ≡ length before
  pub same : (j : ℕ) → j < k → get_or after j 0 ≡ get_or before j 0

pub kept_all : (k : ℕ) (l : List ℕ) → KeptBelow k l l
kept_all k l = record { count = refl; same = λ j h. refl }

pub kept_stored : (k at : ℕ) (vs : List ℕ) {l m : List ℕ} → k ≤ at → KeptBelow k l m → KeptBelow k l (stored m at vs)
kept_stored k at vs {l} {m} h q = record { count = length-sets m at vs ∙ q.count; same = λ j i. stored_off vs m at j (omega arith) ∙ q.same j i }

kept_if : (b : Bool) {k : ℕ} {l m n : List ℕ} → KeptBelow k l m → KeptBelow k l n → KeptBelow k l (cond b m n)
kept_if true p q = p
kept_if false p q = q

-- the sums of a transcript change nothing before its row
pub kept_row : (t : Transcript) (k c : ℕ) (sums : List ℕ) → k ≤ c → KeptBelow k sums (row_sums t k c sums)
kept_row t k c sums h =
    let e = kept_stored k k (cumulative 0 (map size (oriented t).exons)) (omega arith) (kept_all k sums) in
    kept_if (oriented t).coding (kept_stored k c (cumulative (oriented t).pad (map size (oriented t).segments)) h e) e

-- sums that end before the row up to which all is kept
module _ (xs : List Interval) (c row : ℕ) (s t : List ℕ) (k : KeptBelow row s t) (l : c + length xs < row) where
  same_from : (j : ℕ) → j ≤ length xs → get_or (drop c t) j 0 ≡ get_or (drop c s) j 0
  same_from j h = get_or-drop c t j 0 ∙ k.same (c + j) (omega arith) ∙ sym (get_or-drop c s j 0)

  pub first_kept : first_sum (drop c t) ≡ first_sum (drop c s)
  first_kept = same_from 0 (omega arith)

  pub sums_kept : Sums xs (drop c s) → Sums xs (drop c t)
  sums_kept q =
      let n = k.count in
      let a = length-drop c s in
      let b = length-drop c t in
      let r = q.reach in
      let f = first_kept in
      let w = q.low in
      record { reach = omega arith; are = λ j h. same_from j h ∙ q.are j h ∙ ap (λ (m : ℕ). get_or (cumulative m (map size xs)) j 0) (sym f); low = omega arith }

-- the sums of intervals, from their row on
module _ (first : ℕ) (xs : List Interval) (l : List ℕ) (at : ℕ) (low : first ≤ 2) (q : at + length xs < length l) where
  abbrev sums : List ℕ
  sums = cumulative first (map size xs)

  count : (length sums ≡ length xs + 1) × (length xs < length (drop at (stored l at sums)))
  count =
      let a = length-map xs size in
      let b = cumulative_length first (map size xs) in
      let c = length-sets l at sums in
      let d = length-drop at (stored l at sums) in
      (omega arith, omega arith)

  are : (j : ℕ) → j ≤ length xs → get_or (drop at (stored l at sums)) j 0 ≡ get_or sums j 0
  are j i = let n = count.0 in get_or-drop at (stored l at sums) j 0 ∙ stored_at sums l at j (omega arith) (omega arith)

  pub sums_stored : Sums xs (drop at (stored l at sums)) × (first_sum (drop at (stored l at sums)) ≡ first)
  sums_stored = (sums_of first xs (drop at (stored l at sums)) count.1 are low, first_sum_lem first xs (drop at (stored l at sums)) count.1 are)
