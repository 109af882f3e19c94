-- Texts pushed into a buffer one behind the other.
-- Assumes nothing.
use Prim.Native.Nat.{ℕ, zero, suc, ◌+◌, ◌-◌, ◌≤◌, ◌<◌}
use mathlib.Core.Path.{◌≡◌, refl, sym, ◌∙◌, ap}
use mathlib.Core.List.{List, [], ◌∷◌, ◌++◌}
use native.Mathlib.Omega.{arith}
use native.Mathlib.Numerals.{add-one}
use lib.ListN.{length, get_or, take, drop, set, replicate, length-append, length-set, length-replicate}
use lib.Seq.{sets, sets-eq, length-sets, length-take-le, set_out, take-suc, get_or-set_same, get_or-set_other}
use Rattle.common.specs.Stored.{stored, Pushed, filled}

sets_append : (l : List ℕ) (i : ℕ) (xs ys : List ℕ) → sets l i (xs ++ ys) ≡ sets (sets l i xs) (i + length xs) ys
sets_append l i [] ys = let e : i + 0 ≡ i = omega arith in rw e
sets_append l i (x ∷ xs) ys =
    let e : i + suc (length xs) ≡ suc i + length xs = omega arith in
    sets_append (set l i x) (suc i) xs ys ∙ rw e

pub pushed_none : (l : List ℕ) (i : ℕ) → Pushed l i [] l i
pushed_none l i = record { bytes = refl; behind = omega arith }

pub pushed_byte : (l : List ℕ) (i b : ℕ) → Pushed l i (b ∷ []) (set l i b) (i + 1)
pushed_byte l i b = record { bytes = refl; behind = omega arith }

pub pushed_past : (l : List ℕ) (i b : ℕ) → length l ≤ i → Pushed l i (b ∷ []) l (i + 1)
pushed_past l i b h = record { bytes = sym (set_out l i b h); behind = omega arith }

pub pushed_on : {l m n : List ℕ} {i j k : ℕ} {xs ys : List ℕ} → Pushed l i xs m j → Pushed m j ys n k → Pushed l i (xs ++ ys) n k
pushed_on {l} {m} {n} {i} {j} {k} {xs} {ys} p q =
    let e = q.bytes in
    let f = p.behind in
    let g = q.behind in
    let h = length-append xs ys in
    record { bytes = e ∙ rw (p.bytes, f) (sym (sets_append l i xs ys)); behind = omega arith }

pub pushed_length : {l n : List ℕ} {i k : ℕ} {xs : List ℕ} → Pushed l i xs n k → length n ≡ length l
pushed_length {l} {n} {i} {k} {xs} p = ap length p.bytes ∙ length-sets l i xs

-- one byte more of a text
pub pushed_more : {l m n : List ℕ} {i j k : ℕ} (text : List ℕ) (at : ℕ) → at < length text → Pushed l i (take at text) m j → Pushed m j (get_or text at 0 ∷ []) n k → Pushed l i (take (at + 1) text) n k
pushed_more {l} {m} {n} {i} {j} {k} text at h p q = rw (add-one, take-suc text at 0 h) (pushed_on p q)

-- a text that fits stands whole, with what was before it and behind it
pub stored_whole : (l : List ℕ) (text : List ℕ) → length text ≤ length l → stored l 0 text ≡ text ++ drop (length text) l
stored_whole l text h = let e : 0 + length text ≡ length text = omega arith in sets-eq text l 0 (omega arith) ∙ rw e

-- one number more of a list
pub stored_more : (l : List ℕ) (at : ℕ) (vs : List ℕ) (i v : ℕ) → i < length vs → v ≡ get_or vs i 0 → set (stored l at (take i vs)) (at + i) v ≡ stored l at (take (i + 1) vs)
stored_more l at vs i v h e =
    let n = length-take-le i vs (omega arith) in
    rw (add-one, take-suc vs i 0 h, ← e) (sym (sets_append l at (take i vs) (v ∷ []) ∙ rw n))

-- what is stored, at an index; nothing before it changes
pub stored_off : (vs l : List ℕ) (at k : ℕ) → k < at → get_or (stored l at vs) k 0 ≡ get_or l k 0
stored_off [] l at k h = refl
stored_off (v ∷ vs) l at k h = stored_off vs (set l at v) (suc at) k (omega arith) ∙ get_or-set_other l at k v 0 (λ e. let n = e in absurd (omega arith))

pub stored_at : (vs l : List ℕ) (at k : ℕ) → at + length vs ≤ length l → k < length vs → get_or (stored l at vs) (at + k) 0 ≡ get_or vs k 0
stored_at [] l at k f h = absurd (omega arith)
stored_at (v ∷ vs) l at zero f h =
    let e : at + 0 ≡ at = omega arith in
    rw e (stored_off vs (set l at v) (suc at) at (omega arith) ∙ get_or-set_same l at v 0 (omega arith))
stored_at (v ∷ vs) l at (suc k) f h =
    let e : at + suc k ≡ suc at + k = omega arith in
    let n = length-set l at v in
    rw e (stored_at vs (set l at v) (suc at) k (omega arith) (omega arith))

-- numbers at the front of zeros
drop_zeros : (k n : ℕ) → drop k (replicate {A = ℕ} n 0) ≡ replicate (n - k) 0
drop_zeros zero n = let e : n - 0 ≡ n = omega arith in rw e
drop_zeros (suc k) zero = let e : 0 - suc k ≡ 0 = omega arith in rw e
drop_zeros (suc k) (suc n) = let e : suc n - suc k ≡ n - k = omega arith in rw e (drop_zeros k n)

pub stored_zeros : (n : ℕ) (vs : List ℕ) → length vs ≤ n → stored (replicate n 0) 0 vs ≡ filled n vs
stored_zeros n vs h = let m = length-replicate {A = ℕ} n 0 in stored_whole (replicate n 0) vs (omega arith) ∙ ap (λ (l : List ℕ). vs ++ l) (drop_zeros (length vs) n)
