-- How the walk ends.
-- Assumes nothing.
use Prim.Native.Nat.{ℕ, zero, suc, ◌-◌, ◌≤◌, ◌<◌}
use mathlib.Core.Path.{◌≡◌, refl, sym, ◌∙◌, ap}
use mathlib.Core.Bool.{Bool, cond, not}
use mathlib.Core.List.{List, [], ◌∷◌, reverse, reverse_aux, append-nil}
use native.Mathlib.Omega.{arith}
use lib.ListN.{length, take, drop, length-reverse_aux}
use lib.Seq.{length-take-le}
use lib.Dec.{ltb}
use borrow.Author.Tests.{lt-ltb, le-ltb}
use Rattle.std.specs.Prelude.{Ok, Err}
use Rattle.common.specs.Lists.{memb}
use Rattle.deck.specs.declared.walk.Trail.{Trail}
use Rattle.deck.specs.Refused.{link_refusal}
use Rattle.deck.specs.Records.{record_count, lowest}
use Rattle.deck.specs.Walk.{Walk, walked, stopped, walk_deck, first_unreached, walked_as}
use Rattle.deck.specs.code.Order.{order_of, IsOrder}
use Rattle.deck.specs.code.Trail.{is_unreached, ended, walk_way, Through}
use Rattle.deck.proofs.Grown.{both_back}

-- with every link followed
lowest_same : (f g : ℕ → Bool) (n i : ℕ) → ((k : ℕ) → f k ≡ g k) → lowest f n i ≡ lowest g n i
unfolding lowest
lowest_same f g zero i h = refl
lowest_same f g (suc n) i h = rw (h i, lowest_same f g n (suc i) h)

goes : (d : List ℕ) (w : Walk) (n : ℕ) (order r : List ℕ) → walk_way w ≡ ended r → r ≡ reverse_aux (take n order) (0 ∷ []) → n ≤ length order
    → (walked_as d w ≡ cond (ltb (first_unreached d r) (record_count d)) (Err (link_refusal (first_unreached d r))) (Ok n)) × (take n order ≡ order_of w)
goes d (stopped j) n order r e q h = cc
goes d (walked ps s) n order r e q h =
    let u : s ≡ r = cc in
    let k : s ≡ reverse_aux (take n order) (0 ∷ []) = cc in
    let l : length (take n order) ≡ n = length-take-le n order h in
    let m : length s - 1 ≡ n = (let a = ap length k ∙ length-reverse_aux (take n order) (0 ∷ []) in omega arith) in
    let o : drop 1 (reverse s) ≡ take n order = ap (λ (x : List ℕ). drop 1 (reverse x)) k ∙ ap (λ (x : List ℕ). drop 1 x) (both_back (take n order) (0 ∷ []) []) ∙ append-nil (take n order) in
    (rw (m, u), sym o)

module _ (d : List ℕ) (t : Trail) (h : Through d t) (c : record_count d ≤ 4096) (low : ℕ) (q : low ≡ lowest (is_unreached t) (record_count d) 0) where
  fits : t.count ≤ length t.order
  fits = let a = h.held.order_long in let b = h.held.room in omega arith

  unreached_is : low ≡ first_unreached d h.list
  unreached_is = q ∙ lowest_same (is_unreached t) (λ i. not (memb i h.list)) (record_count d) 0 (λ k. ap not (sym (h.held.marks k)))

  gone : (walked_as d (walk_deck d) ≡ cond (ltb (first_unreached d h.list) (record_count d)) (Err (link_refusal (first_unreached d h.list))) (Ok t.count))
      × (take t.count t.order ≡ order_of (walk_deck d))
  gone = goes d (walk_deck d) t.count t.order h.list h.same h.held.ordered fits

  pub ends_low : low < record_count d → Err (link_refusal low) ≡ walked_as d (walk_deck d)
  ends_low l =
      let u = unreached_is in
      let k : first_unreached d h.list < record_count d = rw u at l in
      sym (gone.0 ∙ rw (lt-ltb (first_unreached d h.list) (record_count d) k, ← u))

  module _ (l : record_count d ≤ low) where
    pub ends_all : Ok t.count ≡ walked_as d (walk_deck d)
    ends_all =
        let u = unreached_is in
        let k : record_count d ≤ first_unreached d h.list = rw u at l in
        sym (gone.0 ∙ rw (le-ltb (first_unreached d h.list) (record_count d) k))

    pub in_order : IsOrder d t.count t.order
    in_order = let b = h.held.room in record { few = omega arith; within = fits; front = gone.1 }
