-- The walk reaches no record twice, so it reaches no more than the deck has.
-- Assumes nothing.
use Prim.Native.Nat.{ℕ, zero, suc, ◌+◌, ◌≤◌, ◌<◌}
use mathlib.Core.Path.{◌≡◌, refl, ◌∙◌, ap}
use mathlib.Core.Bool.{Bool, true, false, cond, not, ◌||◌}
use mathlib.Core.List.{List, [], ◌∷◌, reverse}
use native.Mathlib.Omega.{arith}
use lib.ListN.{length, length-drop, length-reverse}
use lib.Dec.{eqb, leb}
use borrow.Author.Tests.{eqb-true, eqb-false, ne_eqb, leb-false}
use Rattle.common.proofs.Counting.{count_either}
use Rattle.common.specs.Lists.{memb, count_below}
use Rattle.deck.specs.Records.{record_count, kind_of, next_of, half}
use Rattle.deck.specs.Walk.{bad_link, Chain, chained, broken, prepend, chain_from, chain, Step, read, failed, follow, walk_coding, walk_bounds, walk_transcript, Walk, walked, stopped, add_parts, onward, transcripts_from, walk_deck}
use Rattle.deck.specs.code.Order.{order_of}

-- numbers below n, none of them twice
abbrev Distinct : ℕ → List ℕ → Type 0
Distinct n [] = Unit {0}
Distinct n (x ∷ xs) = (x < n) × (memb x xs ≡ false) × Distinct n xs

count_le : (f : ℕ → Bool) (n : ℕ) → count_below f n ≤ n
unfolding count_below
count_le f zero = omega arith
count_le f (suc n) = here (f n) (count_le f n)
  where
    here : (b : Bool) → count_below f n ≤ n → count_below f n + cond b 1 0 ≤ suc n
    here true h = omega arith
    here false h = omega arith

-- one number is counted once
count_off : (x n : ℕ) → n ≤ x → count_below (λ i. eqb i x) n ≡ 0
unfolding count_below
count_off x zero l = refl
count_off x (suc n) l = rw (count_off x n (omega arith), ne_eqb n x (λ e. omega arith)) (omega arith)

count_point : (x n : ℕ) → x < n → count_below (λ i. eqb i x) n ≡ 1
unfolding count_below
count_point x zero l = absurd (omega arith)
count_point x (suc n) l = here (eqb n x) refl (λ k. count_point x n k)
  where
    here : (b : Bool) → eqb n x ≡ b → (x < n → count_below (λ i. eqb i x) n ≡ 1) → count_below (λ i. eqb i x) n + cond b 1 0 ≡ 1
    here true e h = let q = eqb-true n x e in rw (count_off x n (omega arith)) (omega arith)
    here false e h = let q = eqb-false n x e in rw (h (omega arith)) (omega arith)

count_one : (x : ℕ) (xs : List ℕ) (n : ℕ) → x < n → memb x xs ≡ false → count_below (λ i. memb i (x ∷ xs)) n ≡ suc (count_below (λ i. memb i xs) n)
count_one x xs n l e =
    let c = count_either (λ i. eqb i x) (λ i. memb i xs) (λ i. memb i (x ∷ xs)) n (λ i q. ap (λ (k : ℕ). memb k xs) (eqb-true i x q) ∙ e) (λ i. refl) in
    let p = count_point x n l in
    omega arith

few : (n : ℕ) (l : List ℕ) → Distinct n l → length l ≤ n
few n l h = let a = all n l h in let b = count_le (λ i. memb i l) n in omega arith
  where
    all : (n : ℕ) (l : List ℕ) → Distinct n l → length l ≤ count_below (λ i. memb i l) n
    all n [] h = omega arith
    all n (x ∷ xs) h = let a = all n xs h.2 in let b = count_one x xs n h.0 h.1 in omega arith

-- a link that is not bad leads to a new record
new_link : (a b c : Bool) → (a || not b || c) ≡ false → (a ≡ false) × (c ≡ false)
new_link false true c e = (refl, e)
new_link false false c e = absurd (let z : ◌≡◌ {A = ℕ} 0 1 = cc in omega arith)
new_link true b c e = absurd (let z : ◌≡◌ {A = ℕ} 0 1 = cc in omega arith)

grown : (d : List ℕ) (kind to : ℕ) (r : List ℕ) → bad_link d kind to r ≡ false → Distinct (record_count d) r → Distinct (record_count d) (to ∷ r)
grown d kind to r e h = let n = new_link (leb (record_count d) to) (eqb (kind_of d to) kind) (memb to r) e in (leb-false (record_count d) to n.0, n.1, h)

abbrev FineChain : List ℕ → Chain → Type 0
FineChain d (chained is q) = Distinct (record_count d) q
FineChain d (broken i) = Unit {0}

fine_on : (d : List ℕ) (i : ℕ) (c : Chain) → FineChain d c → FineChain d (prepend i c)
fine_on d i (chained is q) h = h
fine_on d i (broken j) h = tt

chain_fine : (f : ℕ) (d : List ℕ) (kind from to : ℕ) (r : List ℕ) → Distinct (record_count d) r → FineChain d (chain_from f d kind from to r)
unfolding chain_from
chain_fine zero d kind from to r h = tt
chain_fine (suc f) d kind from to r h = here (eqb to 0) (bad_link d kind to r) refl (λ g. chain_fine f d kind to (next_of d to) (to ∷ r) g)
  where
    here : (s t : Bool) → bad_link d kind to r ≡ t → (Distinct (record_count d) (to ∷ r) → FineChain d (chain_from f d kind to (next_of d to) (to ∷ r)))
        → FineChain d (cond s (chained [] r) (cond t (broken from) (prepend to (chain_from f d kind to (next_of d to) (to ∷ r)))))
    here true t e g = h
    here false true e g = tt
    here false false e g = fine_on d to (chain_from f d kind to (next_of d to) (to ∷ r)) (g (grown d kind to r e h))

abbrev FineStep : List ℕ → Step → Type 0
FineStep d (read p q) = Distinct (record_count d) q
FineStep d (failed i) = Unit {0}

followed : (d : List ℕ) (c : Chain) (go : List ℕ → List ℕ → Step) → FineChain d c → ((is q : List ℕ) → Distinct (record_count d) q → FineStep d (go is q)) → FineStep d (follow c go)
followed d (chained is q) go h g = g is q h
followed d (broken i) go h g = tt

coding_fine : (d : List ℕ) (i : ℕ) (es : List ℕ) (b : ℕ) (r : List ℕ) → Distinct (record_count d) r → FineStep d (walk_coding d i es b r)
unfolding walk_coding
coding_fine d i es b r h =
    followed d (chain d 4 b (half d b 12) r) _ (chain_fine (record_count d) d 4 b (half d b 12) r h)
    (λ gs q k. followed d (chain d 5 b (half d b 14) q) _ (chain_fine (record_count d) d 5 b (half d b 14) q k) (λ us q₂ k₂. k₂))

bounds_fine : (d : List ℕ) (i : ℕ) (es r : List ℕ) → Distinct (record_count d) r → FineStep d (walk_bounds d i es r)
unfolding walk_bounds
bounds_fine d i es r h = here (eqb (half d i 12) 0) (bad_link d 2 (half d i 12) r) refl
  where
    here : (s t : Bool) → bad_link d 2 (half d i 12) r ≡ t
        → FineStep d (cond s (read (record { transcript = i; exons = es; bounds = 0; segments = []; selenocysteine = [] }) r) (cond t (failed i) (walk_coding d i es (half d i 12) (half d i 12 ∷ r))))
    here true t e = h
    here false true e = tt
    here false false e = coding_fine d i es (half d i 12) (half d i 12 ∷ r) (grown d 2 (half d i 12) r e h)

abbrev FineWalk : List ℕ → Walk → Type 0
FineWalk d (walked ps q) = Distinct (record_count d) q
FineWalk d (stopped i) = Unit {0}

onward_fine : (d : List ℕ) (s : Step) (go : List ℕ → Walk) → FineStep d s → ((q : List ℕ) → Distinct (record_count d) q → FineWalk d (go q)) → FineWalk d (onward s go)
onward_fine d (read p q) go h g = added (go q) (g q h)
  where
    added : (w : Walk) → FineWalk d w → FineWalk d (add_parts p w)
    added (walked ps q) h = h
    added (stopped i) h = tt
onward_fine d (failed i) go h g = tt

walk_fine : (f : ℕ) (d : List ℕ) (from to : ℕ) (r : List ℕ) → Distinct (record_count d) r → FineWalk d (transcripts_from f d from to r)
unfolding transcripts_from
walk_fine zero d from to r h = tt
walk_fine (suc f) d from to r h = here (eqb to 0) (bad_link d 1 to r) refl (λ q g. walk_fine f d to (next_of d to) q g)
  where
    here : (s t : Bool) → bad_link d 1 to r ≡ t → ((q : List ℕ) → Distinct (record_count d) q → FineWalk d (transcripts_from f d to (next_of d to) q))
        → FineWalk d (cond s (walked [] r) (cond t (stopped from) (onward (walk_transcript d to (to ∷ r)) λ q. transcripts_from f d to (next_of d to) q)))
    here true t e g = h
    here false true e g = tt
    here false false e g =
        onward_fine d (walk_transcript d to (to ∷ r)) (λ q. transcripts_from f d to (next_of d to) q)
        (followed d (chain d 3 to (half d to 10) (to ∷ r)) _ (chain_fine (record_count d) d 3 to (half d to 10) (to ∷ r) (grown d 1 to r e h)) (λ es q k. bounds_fine d to es q k)) g

order_few : (d : List ℕ) (w : Walk) → 0 < record_count d → FineWalk d w → length (order_of w) < record_count d
order_few d (walked ps q) n h =
    let a = few (record_count d) q h in
    let b = length-reverse q in
    let c = length-drop 1 (reverse q) in
    omega arith
order_few d (stopped i) n h = n

-- besides the head
pub walk_few : (d : List ℕ) → 0 < record_count d → length (order_of (walk_deck d)) < record_count d
unfolding walk_deck
walk_few d n = order_few d (walk_deck d) n (walk_fine (record_count d) d 0 (next_of d 0) (0 ∷ []) (n, refl, tt))
