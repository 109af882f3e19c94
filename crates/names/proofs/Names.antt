-- The names by rank, and which numbers have one.
-- Assumes nothing.
use Prim.Native.String.{String}
use Rattle.std.proofs.Common.{ℕ, zero, suc, ◌-◌, ◌≤◌, ◌<◌, ◌≡◌, ◌≢◌, refl, ap, true, List, [], ◌∷◌, map, length, get_or, Bor, arith}
use lib.ListN.{get_or-eq_default}
use lib.Dec.{leb}
use borrow.Author.Tests.{leb-true}
use Rattle.common.specs.Lists.{all}
use Rattle.common.specs.Text.{bytes}
use Rattle.common.proofs.TestParts.{and_true}
use Rattle.names.specs.Names.{term_names, term_name}

-- a number that is no rank has no name
pub nameless : (r : ℕ) → (0 < r → 28 < r) → term_name r ≡ []
unfolding term_name term_names
nameless zero h = refl
nameless (suc k) h = let l = h (omega arith) in ap bytes (get_or-eq_default term_names "" {n = k} (omega arith))

-- an element of a table of which each has the value that a list has in its place
at_place : (xs : List (Bor (List ℕ))) (ts : List String) (d : Bor (List ℕ)) (k : ℕ) → k < length xs → map (λ x. x.now) xs ≡ map bytes ts
    → (get_or xs k d).now ≡ bytes (get_or ts k "")
at_place [] ts d k h e = absurd (omega arith)
at_place (x ∷ xs) [] d k h e = cc
at_place (x ∷ xs) (t ∷ ts) d zero h e = cc
at_place (x ∷ xs) (t ∷ ts) d (suc k) h e = at_place xs ts d k (omega arith) cc

-- a table of all the names, by rank
pub name_in :
    (xs : List (Bor (List ℕ))) (d : Bor (List ℕ)) (r : ℕ) → r ≢ 0 → r - 1 < length xs → map (λ x. x.now) xs ≡ map bytes term_names
    → (get_or xs (r - 1) d).now ≡ term_name r
unfolding term_name
name_in xs d zero n l e = absurd (n refl)
name_in xs d (suc k) n l e =
    let z : suc k - 1 ≡ k = omega arith in
    rw z (at_place xs term_names d k (omega arith) e)

-- texts of which none has more than n bytes, one computed test for all; there is none behind the last
pub short_texts : (n : ℕ) (ts : List String) → all (λ s. leb (length (bytes s)) n) ts ≡ true → (k : ℕ)
    → length (bytes (get_or ts k "")) ≤ n
short_texts n [] h k = omega arith
short_texts n (t ∷ ts) h zero = leb-true (length (bytes t)) n (and_true (leb (length (bytes t)) n) (all (λ s. leb (length (bytes s)) n) ts) h).0
short_texts n (t ∷ ts) h (suc k) = short_texts n ts (and_true (leb (length (bytes t)) n) (all (λ s. leb (length (bytes s)) n) ts) h).1 k

pub name_short : (r : ℕ) → length (term_name r) ≤ 34
unfolding term_name term_names
name_short zero = omega arith
name_short (suc k) = short_texts 34 term_names refl k
