-- A walk reaches the records of its transcripts in their order, each of its kind.
-- Assumes nothing.
use Prim.Native.Nat.{ℕ, zero, suc, ◌<◌}
use mathlib.Core.Path.{◌≡◌, refl, sym, ◌∙◌, ap}
use mathlib.Core.Bool.{Bool, true, false, cond, not, ◌||◌}
use mathlib.Core.List.{List, [], ◌∷◌, ◌++◌, reverse, reverse_aux, append-nil}
use native.Mathlib.Omega.{arith}
use lib.ListN.{drop}
use lib.Dec.{eqb, leb}
use borrow.Author.Tests.{eqb-true, leb-false}
use Rattle.common.specs.Lists.{memb}
use Rattle.deck.specs.Records.{record_count, kind_of, next_of, half}
use Rattle.deck.specs.Walk.{bad_link, Chain, chained, broken, prepend, chain_from, chain, Parts, Step, read, failed, follow, walk_coding, walk_bounds, walk_transcript, Walk, walked, stopped, add_parts, onward, transcripts_from, walk_deck}
use Rattle.deck.specs.code.Order.{order_of}
use Rattle.deck.specs.Deck.{parts_of}
use Rattle.deck.specs.code.Reached.{bounds_list, records_of}

abbrev pub Is : List ℕ → ℕ → ℕ → Type 0
Is d kind i = (kind_of d i ≡ kind) × (i < record_count d)

-- every number is a record of the deck, and of the kind
abbrev pub Kind : List ℕ → ℕ → List ℕ → Type 0
Kind d kind [] = Unit {0}
Kind d kind (i ∷ is) = Is d kind i × Kind d kind is

-- a link that is not bad leads to its kind
kind_of_lem : (a b c : Bool) → (a || not b || c) ≡ false → (b ≡ true) × (a ≡ false)
kind_of_lem false true c e = (refl, refl)
kind_of_lem false false c e = absurd (let z : ◌≡◌ {A = ℕ} 0 1 = cc in omega arith)
kind_of_lem true b c e = absurd (let z : ◌≡◌ {A = ℕ} 0 1 = cc in omega arith)

link_kind : (d : List ℕ) (kind to : ℕ) (r : List ℕ) → bad_link d kind to r ≡ false → Is d kind to
link_kind d kind to r e =
    let k = kind_of_lem (leb (record_count d) to) (eqb (kind_of d to) kind) (memb to r) e in
    (eqb-true (kind_of d to) kind k.0, leb-false (record_count d) to k.1)

-- a chain
abbrev Chained : List ℕ → ℕ → List ℕ → Chain → Type 0
Chained d kind r (chained is q) = (q ≡ reverse_aux is r) × Kind d kind is
Chained d kind r (broken i) = Unit {0}

chained_on : (d : List ℕ) (kind to : ℕ) (r : List ℕ) (c : Chain) → Is d kind to → Chained d kind (to ∷ r) c → Chained d kind r (prepend to c)
chained_on d kind to r (chained is q) e h = (h.0, (e, h.1))
chained_on d kind to r (broken i) e h = tt

chain_grows : (f : ℕ) (d : List ℕ) (kind from to : ℕ) (r : List ℕ) → Chained d kind r (chain_from f d kind from to r)
unfolding chain_from
chain_grows zero d kind from to r = tt
chain_grows (suc f) d kind from to r = here (eqb to 0) (bad_link d kind to r) refl (chain_grows f d kind to (next_of d to) (to ∷ r))
  where
    here : (s t : Bool) → bad_link d kind to r ≡ t → Chained d kind (to ∷ r) (chain_from f d kind to (next_of d to) (to ∷ r))
        → Chained d kind r (cond s (chained [] r) (cond t (broken from) (prepend to (chain_from f d kind to (next_of d to) (to ∷ r)))))
    here true t e h = (refl, tt)
    here false true e h = tt
    here false false e h = chained_on d kind to r (chain_from f d kind to (next_of d to) (to ∷ r)) (link_kind d kind to r e) h

-- one transcript's records are of their kinds
pub record Kinds (d : List ℕ) (p : Parts) : Type 0 where
  pub transcripts : Kind d 1 (p.transcript ∷ [])
  pub exons : Kind d 3 p.exons
  pub bounds : Kind d 2 (bounds_list p.bounds)
  pub segments : Kind d 4 p.segments
  pub selenocysteine : Kind d 5 p.selenocysteine

back_append : (xs ys r : List ℕ) → reverse_aux (xs ++ ys) r ≡ reverse_aux ys (reverse_aux xs r)
back_append [] ys r = refl
back_append (x ∷ xs) ys r = back_append xs ys (x ∷ r)

abbrev part : Parts → List ℕ
part p = p.exons ++ (bounds_list p.bounds ++ (p.segments ++ p.selenocysteine))

abbrev Stepped : List ℕ → ℕ → List ℕ → Step → Type 0
Stepped d t r (read p q) = (p.transcript ≡ t) × (q ≡ reverse_aux (part p) r) × (Is d 1 t → Kinds d p)
Stepped d t r (failed i) = Unit {0}

followed : (d : List ℕ) (t kind : ℕ) (r r₀ : List ℕ) (c : Chain) (go : List ℕ → List ℕ → Step) → Chained d kind r c
    → ((is q : List ℕ) → q ≡ reverse_aux is r → Kind d kind is → Stepped d t r₀ (go is q)) → Stepped d t r₀ (follow c go)
followed d t kind r r₀ (chained is q) go h g = g is q h.0 h.1
followed d t kind r r₀ (broken i) go h g = tt

coding_grows : (d : List ℕ) (i : ℕ) (es : List ℕ) (b : ℕ) (r r₀ : List ℕ) → eqb b 0 ≡ false → Is d 2 b → Kind d 3 es → r ≡ b ∷ reverse_aux es r₀
    → Stepped d i r₀ (walk_coding d i es b r)
unfolding walk_coding
coding_grows d i es b r r₀ z k ke e =
    followed d i 4 r r₀ (chain d 4 b (half d b 12) r)
    (λ ss r₁. follow (chain d 5 b (half d b 14) r₁) λ us r₂. read (record { transcript = i; exons = es; bounds = b; segments = ss; selenocysteine = us }) r₂)
    (chain_grows (record_count d) d 4 b (half d b 12) r)
    (λ ss r₁ g₁ k₁. followed d i 5 r₁ r₀ (chain d 5 b (half d b 14) r₁)
    (λ us r₂. read (record { transcript = i; exons = es; bounds = b; segments = ss; selenocysteine = us }) r₂)
    (chain_grows (record_count d) d 5 b (half d b 14) r₁)
    (λ us r₂ g₂ k₂. (
      refl,
      g₂ ∙ rw (g₁, e, z) (sym (back_append es (b ∷ (ss ++ us)) r₀ ∙ back_append ss us (b ∷ reverse_aux es r₀))),
      λ h. record { transcripts = (h, tt); exons = ke; bounds = rw z (k, tt); segments = k₁; selenocysteine = k₂ },
    )))

bounds_grows : (d : List ℕ) (i : ℕ) (es r r₀ : List ℕ) → Kind d 3 es → r ≡ reverse_aux es r₀ → Stepped d i r₀ (walk_bounds d i es r)
unfolding walk_bounds
bounds_grows d i es r r₀ k e =
    here (eqb (half d i 12) 0) (bad_link d 2 (half d i 12) r) refl refl
  where
    here : (s t : Bool) → eqb (half d i 12) 0 ≡ s → bad_link d 2 (half d i 12) r ≡ t
        → Stepped d i r₀ (cond s (read (record { transcript = i; exons = es; bounds = 0; segments = []; selenocysteine = [] }) r) (cond t (failed i) (walk_coding d i es (half d i 12) (half d i 12 ∷ r))))
    here true t z g = (refl, e ∙ rw (append-nil es), λ h. record { transcripts = (h, tt); exons = k; bounds = tt; segments = tt; selenocysteine = tt })
    here false true z g = tt
    here false false z g = coding_grows d i es (half d i 12) (half d i 12 ∷ r) r₀ z (link_kind d 2 (half d i 12) r g) k (ap (λ (x : List ℕ). half d i 12 ∷ x) e)

transcript_grows : (d : List ℕ) (t : ℕ) (r : List ℕ) → Stepped d t r (walk_transcript d t r)
transcript_grows d t r =
    followed d t 3 r r (chain d 3 t (half d t 10) r) (λ es r₁. walk_bounds d t es r₁) (chain_grows (record_count d) d 3 t (half d t 10) r)
    (λ es r₁ g k. bounds_grows d t es r₁ r k g)

-- all transcripts
abbrev pub AllKinds : List ℕ → List Parts → Type 0
AllKinds d [] = Unit {0}
AllKinds d (p ∷ ps) = Kinds d p × AllKinds d ps

abbrev Grown : List ℕ → List ℕ → Walk → Type 0
Grown d r (walked ps q) = (q ≡ reverse_aux (records_of ps) r) × AllKinds d ps
Grown d r (stopped i) = Unit {0}

added : (d : List ℕ) (r q : List ℕ) (p : Parts) (w : Walk) → q ≡ reverse_aux (part p) (p.transcript ∷ r) → Kinds d p → Grown d q w → Grown d r (add_parts p w)
unfolding records_of
added d r q p (walked ps x) e k g =
    (g.0 ∙ rw e (sym (back_append (part p) (records_of ps) (p.transcript ∷ r))), (k, g.1))
added d r q p (stopped i) e k g = tt

onward_grows : (d : List ℕ) (t : ℕ) (r : List ℕ) (s : Step) (go : List ℕ → Walk) → Is d 1 t → Stepped d t (t ∷ r) s → ((q : List ℕ) → Grown d q (go q)) → Grown d r (onward s go)
onward_grows d t r (read p q) go k h g = added d r q p (go q) (rw h.0 h.1) (h.2 k) (g q)
onward_grows d t r (failed i) go k h g = tt

transcripts_grow : (f : ℕ) (d : List ℕ) (from t : ℕ) (r : List ℕ) → Grown d r (transcripts_from f d from t r)
unfolding transcripts_from records_of
transcripts_grow zero d from t r = tt
transcripts_grow (suc f) d from t r = here (eqb t 0) (bad_link d 1 t r) refl (λ q. transcripts_grow f d t (next_of d t) q)
  where
    here : (s v : Bool) → bad_link d 1 t r ≡ v → ((q : List ℕ) → Grown d q (transcripts_from f d t (next_of d t) q))
        → Grown d r (cond s (walked [] r) (cond v (stopped from) (onward (walk_transcript d t (t ∷ r)) λ q. transcripts_from f d t (next_of d t) q)))
    here true v e g = (refl, tt)
    here false true e g = tt
    here false false e g =
        onward_grows d t r (walk_transcript d t (t ∷ r)) (λ q. transcripts_from f d t (next_of d t) q) (link_kind d 1 t r e) (transcript_grows d t (t ∷ r)) g

pub both_back : (xs ys zs : List ℕ) → reverse_aux (reverse_aux xs ys) zs ≡ reverse_aux ys (xs ++ zs)
both_back [] ys zs = refl
both_back (x ∷ xs) ys zs = both_back xs (x ∷ ys) zs

ordered : (d : List ℕ) (w : Walk) → Grown d (0 ∷ []) w → (order_of w ≡ records_of (parts_of w)) × AllKinds d (parts_of w)
unfolding records_of
ordered d (walked ps q) g =
    (ap (λ (x : List ℕ). drop 1 (reverse x)) g.0 ∙ ap (λ (x : List ℕ). drop 1 x) (both_back (records_of ps) (0 ∷ []) []) ∙ append-nil (records_of ps), g.1)
ordered d (stopped i) g = (refl, tt)

-- the order of the walk is that of the transcripts' records, each of its kind
pub walk_order : (d : List ℕ) → (order_of (walk_deck d) ≡ records_of (parts_of (walk_deck d))) × AllKinds d (parts_of (walk_deck d))
unfolding walk_deck
walk_order d = ordered d (walk_deck d) (transcripts_grow (record_count d) d 0 (next_of d 0) (0 ∷ []))
