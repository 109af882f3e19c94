-- The transcripts of a table, row by row.
-- Assumes nothing.
use Prim.Native.Nat.{ℕ, zero, suc, ◌+◌, ◌-◌, ◌≤◌, ◌<◌}
use mathlib.Core.Path.{◌≡◌, refl, ap}
use mathlib.Core.Bool.{Bool, true, false, cond, not}
use mathlib.Core.List.{List, [], ◌∷◌}
use native.Mathlib.Omega.{arith}
use lib.ListN.{length, get_or}
use lib.Dec.{eqb, ltb}
use borrow.Author.Tests.{eq-eqb, ne_eqb, lt-ltb, le-ltb, ltb-true, eqb-true}
use Rattle.common.proofs.TestParts.{on_test, and_true}
use Rattle.std.specs.Prelude.{Some, None}
use Rattle.deck.specs.declared.rows.Rows.{Rows}
use Rattle.deck.specs.Records.{lowest}
use Rattle.deck.specs.code.Table.{is_kind, run_end, bounds_end, rows_at, transcript_rows_at, InOrder, rows_from, rows_onward}

lowest_within : (f : ℕ → Bool) (n i : ℕ) → (i ≤ lowest f n i) × (lowest f n i ≤ n + i)
unfolding lowest
lowest_within f zero i = (omega arith, omega arith)
lowest_within f (suc n) i = here (f i) (lowest_within f n (suc i))
  where
    here : (b : Bool) {j : ℕ} → (suc i ≤ j) × (j ≤ n + suc i) → (i ≤ cond b i j) × (cond b i j ≤ suc n + i)
    here true h = (omega arith, omega arith)
    here false h = let a = h.0 in let b = h.1 in (omega arith, omega arith)

run_from : (kinds : List ℕ) (kind i : ℕ) → i ≤ run_end kinds kind i
run_from kinds kind i = (lowest_within _ (4096 - i) i).0

run_low : (kinds : List ℕ) (kind i : ℕ) → i ≤ 4096 → run_end kinds kind i ≤ 4096
run_low kinds kind i h = let b = (lowest_within (λ j. not (eqb (get_or kinds j 0) kind)) (4096 - i) i).1 in omega arith

bounds_from : (kinds : List ℕ) (i : ℕ) → i ≤ bounds_end kinds i
bounds_from kinds i = here (is_kind kinds 2 i)
  where
    here : (b : Bool) → i ≤ cond b (i + 1) i
    here true = omega arith
    here false = omega arith

-- a row at which a record of a kind stands lies in the table
pub row_inside : (kinds : List ℕ) (kind k : ℕ) → is_kind kinds kind k ≡ true → k < 4096
row_inside kinds kind k h = ltb-true k 4096 (and_true (ltb k 4096) (eqb (get_or kinds k 0) kind) h).0

bounds_low : (kinds : List ℕ) (i : ℕ) → i ≤ 4096 → bounds_end kinds i ≤ 4096
bounds_low kinds i h = on_test (is_kind kinds 2 i) (λ e. (let l = row_inside kinds 2 i e in rw e (omega arith))) (λ e. rw e h)

pub row_is : (kinds : List ℕ) (k : ℕ) → (rows_at kinds k).row ≡ k
unfolding rows_at
row_is kinds k = refl

-- the rows of a transcript end behind it
pub rows_past : (kinds : List ℕ) (k : ℕ) → k < (rows_at kinds k).bases
unfolding rows_at
rows_past kinds k =
    let x = run_end kinds 3 (k + 1) in
    let b = bounds_end kinds x in
    let g = run_end kinds 4 b in
    let h = run_from kinds 3 (k + 1) in
    let i = bounds_from kinds x in
    let j = run_from kinds 4 b in
    let l = run_from kinds 5 g in
    omega arith

-- and stand in their order, inside the table
pub rows_in_order : (kinds : List ℕ) (k : ℕ) → k < 4096 → InOrder (rows_at kinds k)
unfolding rows_at
rows_in_order kinds k l =
    let x = run_end kinds 3 (k + 1) in
    let b = bounds_end kinds x in
    let g = run_end kinds 4 b in
    let h = run_from kinds 3 (k + 1) in
    let bl = bounds_low kinds x (run_low kinds 3 (k + 1) (omega arith)) in
    (omega arith, bounds_from kinds x, run_from kinds 4 b, run_from kinds 5 g, run_low kinds 5 g (run_low kinds 4 b bl))

-- no more than 4096 transcripts stand in a table
pub rows_fuel : (kinds : List ℕ) (n m k : ℕ) → 4096 ≤ n + k → 4096 ≤ m + k → rows_from n kinds k ≡ rows_from m kinds k
unfolding rows_from
rows_fuel kinds zero zero k g h = refl
rows_fuel kinds zero (suc m) k g h = rw (le-ltb k 4096 (omega arith))
rows_fuel kinds (suc n) zero k g h = rw (le-ltb k 4096 (omega arith))
rows_fuel kinds (suc n) (suc m) k g h =
    let p = rows_past kinds k in
    ap (λ (l : List Rows). cond (is_kind kinds 1 k) (rows_at kinds k ∷ l) []) (rows_fuel kinds n m (rows_at kinds k).bases (omega arith) (omega arith))

module _ (kinds : List ℕ) (k : ℕ) where
  pub rows_here : k < 4096 → get_or kinds k 0 ≡ 1 → rows_onward kinds k ≡ rows_at kinds k ∷ rows_onward kinds (rows_at kinds k).bases
  unfolding rows_from
  rows_here l e =
      let q : 4096 - k ≡ suc (4096 - (k + 1)) = omega arith in
      let p = rows_past kinds k in
      let b = (rows_at kinds k).bases in
      rw (q, lt-ltb k 4096 l, eq-eqb (get_or kinds k 0) 1 e) (ap (λ (r : List Rows). rows_at kinds k ∷ r) (rows_fuel kinds (4096 - (k + 1)) (4096 - b) b (omega arith) (omega arith)))

  pub rows_none : (k < 4096 → get_or kinds k 0 ≡ 1 → ⊥) → rows_onward kinds k ≡ []
  unfolding rows_from
  rows_none n = here (4096 - k) refl
    where
      here : (m : ℕ) → 4096 - k ≡ m → rows_from m kinds k ≡ []
      here zero e = refl
      here (suc m) e = rw (ne_eqb (get_or kinds k 0) 1 (n (omega arith)), lt-ltb k 4096 (omega arith))

-- where the code finds a transcript at a row
module _ (kinds : List ℕ) (k : ℕ) {r : Rows} (e : Some r ≡ transcript_rows_at kinds k) where
  stands : (is_kind kinds 1 k ≡ true) × (r ≡ rows_at kinds k)
  stands = on_test (is_kind kinds 1 k) (λ h. let q = rw h at e in (h, cc)) (λ h. let q = rw h at e in cc)

  row_low : k < 4096
  row_low = row_inside kinds 1 k stands.0

  rows_are : r ≡ rows_at kinds k
  rows_are = stands.1

  pub rows_step : rows_onward kinds k ≡ r ∷ rows_onward kinds r.bases
  rows_step = rw rows_are (rows_here kinds k row_low (eqb-true (get_or kinds k 0) 1 (and_true (ltb k 4096) (eqb (get_or kinds k 0) 1) stands.0).1))

-- where it finds none
pub rows_stop : (kinds : List ℕ) (k : ℕ) → None ≡ transcript_rows_at kinds k → rows_onward kinds k ≡ []
rows_stop kinds k e = rows_none kinds k (λ l q. let h = rw (lt-ltb k 4096 l, eq-eqb (get_or kinds k 0) 1 q) at e in cc)

-- the first of the transcripts from a row on stands in order
pub rows_ordered : (kinds : List ℕ) (k : ℕ) {r : Rows} {rest : List Rows} → rows_onward kinds k ≡ r ∷ rest → InOrder r
unfolding rows_from
rows_ordered kinds k = from (4096 - k)
  where
    from : (n : ℕ) {r : Rows} {rest : List Rows} → rows_from n kinds k ≡ r ∷ rest → InOrder r
    from zero e = cc
    from (suc n) {r} {rest} e = on_test (is_kind kinds 1 k)
        (λ h. (let q = rw h at e in
        let f : rows_at kinds k ≡ r = cc in
        rw (← f) (rows_in_order kinds k (row_inside kinds 1 k h))))
        (λ h. (let q = rw h at e in cc))

pub first_low : (kinds : List ℕ) (k : ℕ) {r : Rows} {rest : List Rows} → rows_onward kinds k ≡ r ∷ rest → r.row < 4096
first_low kinds k e = let o = rows_ordered kinds k e in let a = o.0 in let b = o.1 in let c = o.2 in let d = o.3 in let f = o.4 in omega arith

-- there are no more than rows
pub rows_few : (n : ℕ) (kinds : List ℕ) (k : ℕ) → length (rows_from n kinds k) ≤ n
unfolding rows_from
rows_few zero kinds k = omega arith
rows_few (suc n) kinds k = here (is_kind kinds 1 k) (rows_from n kinds (rows_at kinds k).bases) (rows_few n kinds (rows_at kinds k).bases)
  where
    here : (b : Bool) (l : List Rows) → length l ≤ n → length (cond b (rows_at kinds k ∷ l) []) ≤ suc n
    here true l h = omega arith
    here false l h = omega arith
