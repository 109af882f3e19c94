-- How a chain, a transcript and a walk end, from the definitions.
-- Assumes nothing.
use Prim.Native.Nat.{ℕ, suc}
use mathlib.Core.Path.{◌≡◌, refl, ◌∙◌}
use mathlib.Core.Bool.{Bool, true, false, cond}
use mathlib.Core.List.{List, [], ◌∷◌}
use native.Mathlib.Omega.{arith}
use lib.Dec.{eqb}
use Rattle.deck.specs.Records.{next_of, half}
use Rattle.deck.specs.code.Trail.{Way, ended, bad, walk_way}
use Rattle.deck.specs.Walk.{bad_link, Chain, chained, broken, prepend, chain_from, chain, Parts, Step, read, failed, follow, walk_coding, walk_bounds, walk_transcript, Walk, walked, stopped, add_parts, onward, transcripts_from}

abbrev pub chain_way : Chain → Way
chain_way (chained is r) = ended r
chain_way (broken i) = bad i

abbrev pub step_way : Step → Way
step_way (read p r) = ended r
step_way (failed i) = bad i

abbrev pub go_on : Way → (List ℕ → Way) → Way
go_on (ended r) go = go r
go_on (bad i) go = bad i

-- a chain, one link at a time
prepend_way : (to : ℕ) (c : Chain) → chain_way (prepend to c) ≡ chain_way c
prepend_way to (chained is r) = refl
prepend_way to (broken i) = refl

chain_cases : (s t : Bool) (r : List ℕ) (from to : ℕ) (c : Chain)
    → chain_way (cond s (chained [] r) (cond t (broken from) (prepend to c))) ≡ cond s (ended r) (cond t (bad from) (chain_way c))
chain_cases s t r from to c = grind (arith, prepend_way)

pub chain_way_lem : (f : ℕ) (d : List ℕ) (kind from to : ℕ) (r : List ℕ)
    → chain_way (chain_from (suc f) d kind from to r) ≡ cond (eqb to 0) (ended r) (cond (bad_link d kind to r) (bad from) (chain_way (chain_from f d kind to (next_of d to) (to ∷ r))))
unfolding chain_from
chain_way_lem f d kind from to r = chain_cases (eqb to 0) (bad_link d kind to r) r from to (chain_from f d kind to (next_of d to) (to ∷ r))

-- a transcript
follow_way : (c : Chain) (go : List ℕ → List ℕ → Step) (w : List ℕ → Way) → ((is r : List ℕ) → step_way (go is r) ≡ w r) → step_way (follow c go) ≡ go_on (chain_way c) w
follow_way (chained is r) go w h = h is r
follow_way (broken i) go w h = refl

go_ended : (c : Way) → go_on c (λ r. ended r) ≡ c
go_ended (ended r) = refl
go_ended (bad i) = refl

abbrev pub coding_way : List ℕ → ℕ → List ℕ → Way
coding_way d b r = go_on (chain_way (chain d 4 b (half d b 12) r)) (λ r₁. chain_way (chain d 5 b (half d b 14) r₁))

coding_way_lem : (d : List ℕ) (i : ℕ) (es : List ℕ) (b : ℕ) (r : List ℕ) → step_way (walk_coding d i es b r) ≡ coding_way d b r
unfolding walk_coding
coding_way_lem d i es b r =
    follow_way (chain d 4 b (half d b 12) r)
    (λ ss r₁. follow (chain d 5 b (half d b 14) r₁) λ us r₂. read (record { transcript = i; exons = es; bounds = b; segments = ss; selenocysteine = us }) r₂)
    (λ r₁. chain_way (chain d 5 b (half d b 14) r₁))
    (λ ss r₁. follow_way (chain d 5 b (half d b 14) r₁)
    (λ us r₂. read (record { transcript = i; exons = es; bounds = b; segments = ss; selenocysteine = us }) r₂)
    (λ r₂. ended r₂) (λ us r₂. refl) ∙ go_ended (chain_way (chain d 5 b (half d b 14) r₁)))

abbrev pub bounds_way : List ℕ → ℕ → List ℕ → Way
bounds_way d t r =
    cond (eqb (half d t 12) 0) (ended r) (cond (bad_link d 2 (half d t 12) r) (bad t) (coding_way d (half d t 12) (half d t 12 ∷ r)))

step_cases : (s t : Bool) (x y z : Step) (x' y' z' : Way) → step_way x ≡ x' → step_way y ≡ y' → step_way z ≡ z' → step_way (cond s x (cond t y z)) ≡ cond s x' (cond t y' z')
step_cases true t x y z x' y' z' a b c = a
step_cases false true x y z x' y' z' a b c = b
step_cases false false x y z x' y' z' a b c = c

bounds_way_lem : (d : List ℕ) (t : ℕ) (es r : List ℕ) → step_way (walk_bounds d t es r) ≡ bounds_way d t r
unfolding walk_bounds
bounds_way_lem d t es r =
    step_cases (eqb (half d t 12) 0) (bad_link d 2 (half d t 12) r)
    (read (record { transcript = t; exons = es; bounds = 0; segments = []; selenocysteine = [] }) r) (failed t) (walk_coding d t es (half d t 12) (half d t 12 ∷ r))
    (ended r) (bad t) (coding_way d (half d t 12) (half d t 12 ∷ r)) refl refl (coding_way_lem d t es (half d t 12) (half d t 12 ∷ r))

pub transcript_way : (d : List ℕ) (t : ℕ) (r : List ℕ) → step_way (walk_transcript d t r) ≡ go_on (chain_way (chain d 3 t (half d t 10) r)) (bounds_way d t)
transcript_way d t r = follow_way (chain d 3 t (half d t 10) r) (λ es r₁. walk_bounds d t es r₁) (bounds_way d t) (λ es r₁. bounds_way_lem d t es r₁)

-- the transcripts, one at a time
add_way : (p : Parts) (w : Walk) → walk_way (add_parts p w) ≡ walk_way w
add_way p (walked ps r) = refl
add_way p (stopped i) = refl

onward_way : (s : Step) (go : List ℕ → Walk) → walk_way (onward s go) ≡ go_on (step_way s) (λ r. walk_way (go r))
onward_way (read p r) go = add_way p (go r)
onward_way (failed i) go = refl

walk_cases : (s t : Bool) (r : List ℕ) (from : ℕ) (z : Walk) (w : Way) → walk_way z ≡ w → walk_way (cond s (walked [] r) (cond t (stopped from) z)) ≡ cond s (ended r) (cond t (bad from) w)
walk_cases true t r from z w h = refl
walk_cases false true r from z w h = refl
walk_cases false false r from z w h = h

pub transcripts_way : (f : ℕ) (d : List ℕ) (from t : ℕ) (r : List ℕ)
    → walk_way (transcripts_from (suc f) d from t r)
    ≡ cond (eqb t 0) (ended r) (cond (bad_link d 1 t r) (bad from) (go_on (step_way (walk_transcript d t (t ∷ r))) (λ q. walk_way (transcripts_from f d t (next_of d t) q))))
unfolding transcripts_from
transcripts_way f d from t r =
    walk_cases (eqb t 0) (bad_link d 1 t r) r from (onward (walk_transcript d t (t ∷ r)) λ q. transcripts_from f d t (next_of d t) q)
    (go_on (step_way (walk_transcript d t (t ∷ r))) (λ q. walk_way (transcripts_from f d t (next_of d t) q)))
    (onward_way (walk_transcript d t (t ∷ r)) (λ q. transcripts_from f d t (next_of d t) q))
