-- The walk on its way: before a transcript, and in one before a link.
-- Assumes nothing.
use Prim.Native.Nat.{ℕ, zero, suc, ◌-◌, ◌≤◌, ◌<◌}
use mathlib.Core.Path.{◌≡◌, refl, sym, ◌∙◌, ap}
use mathlib.Core.Bool.{Bool, true, false, cond}
use mathlib.Core.List.{List, [], ◌∷◌}
use native.Mathlib.Omega.{arith}
use lib.Dec.{eqb}
use borrow.Author.Tests.{eq-eqb, ne_eqb}
use Rattle.deck.specs.declared.kind.Kind.{Kind}
use Rattle.deck.specs.declared.kind.Kind.TheVariants.{Head, Transcript, Bounds, Exon, Segment, Selenocysteine}
use Rattle.deck.specs.declared.links.Link.{Link}
use Rattle.deck.specs.declared.walk.Trail.{Trail}
use Rattle.deck.specs.Refused.{link_refusal}
use Rattle.deck.specs.Records.{record_count, next_of, half}
use Rattle.deck.specs.Walk.{bad_link, chain_from, walk_transcript, transcripts_from, walk_deck}
use Rattle.deck.specs.code.Links.{exon_link, segment_link, next_link, bounds_after}
use Rattle.deck.specs.code.Trail.{first_trail, with_record, is_bad, left, Reached, Way, ended, bad, walk_way, Before, Through, Stops}
use Rattle.deck.proofs.Ways.{chain_way, step_way, go_on, bounds_way, transcript_way, transcripts_way}
use Rattle.deck.proofs.Resume.{resume, Resumed, exon_resume, after, after_resume}
use Rattle.deck.proofs.Reached.{test_is, good_inside, fewer, one_more, head_alone}

-- a link is held by a record of the deck
either_from : (s : Bool) (x y : Link) (c : ℕ) → x.from < c → y.from < c → (cond s x y).from < c
either_from true x y c g h = g
either_from false x y c g h = h

exon_from : (d : List ℕ) (t from to c : ℕ) → t < c → from < c → (exon_link d t from to).from < c
exon_from d t from to c g h = either_from (eqb to 0) (record { kind = Bounds; from = t; to = half d t 12 }) (record { kind = Exon; from = from; to = to }) c g h

segment_from : (d : List ℕ) (b from to c : ℕ) → b < c → from < c → (segment_link d b from to).from < c
segment_from d b from to c g h = either_from (eqb to 0) (record { kind = Selenocysteine; from = b; to = half d b 14 }) (record { kind = Segment; from = from; to = to }) c g h

next_from : (d : List ℕ) (t b : ℕ) (kind : Kind) (at : ℕ) → t < record_count d → b < record_count d → at < record_count d → (next_link d t b kind at).from < record_count d
next_from d t b Exon at g h i = exon_from d t at (next_of d at) (record_count d) g i
next_from d t b Bounds at g h i = segment_from d at at (half d at 12) (record_count d) i i
next_from d t b Segment at g h i = segment_from d b at (next_of d at) (record_count d) h i
next_from d t b Head at g h i = i
next_from d t b Transcript at g h i = i
next_from d t b Selenocysteine at g h i = i

bounds_from : (b : ℕ) (kind : Kind) (at n : ℕ) → b < n → at < n → bounds_after b kind at < n
bounds_from b Bounds at n h i = i
bounds_from b Exon at n h i = h
bounds_from b Segment at n h i = h
bounds_from b Head at n h i = h
bounds_from b Transcript at n h i = h
bounds_from b Selenocysteine at n h i = h

-- in transcript i, before a link
pub record Inner (d : List ℕ) (i : ℕ) (start t : Trail) (b : ℕ) (link : Link) : Type 0 where
  pub list : List ℕ
  pub held : Reached d t list
  pub in_i : i < record_count d
  pub in_b : b < record_count d
  pub in_from : link.from < record_count d
  pub fuel : ℕ
  pub enough : left d t ≤ fuel
  pub next : ℕ
  pub enough_next : left d t < next
  pub falls : left d t < left d start
  pub same : go_on (resume d i b fuel link list) (λ r. walk_way (transcripts_from next d i (next_of d i) r)) ≡ walk_way (walk_deck d)

pub before_first : (d : List ℕ) → 0 < record_count d → Before d first_trail 0 (next_of d 0)
unfolding walk_deck
before_first d h =
    let r = head_alone d h in
    let e = r.room in
    record { list = 0 ∷ []; held = r; in_from = h; fuel = record_count d; enough = omega arith; same = refl }

module _ (d : List ℕ) (t : Trail) (from i : ℕ) (o : Before d t from i) where
  -- the fuel is never spent
  some : (f : ℕ) × (o.fuel ≡ suc f)
  some = here o.fuel o.enough
    where
      here : (f : ℕ) → left d t < f → (g : ℕ) × (f ≡ suc g)
      here zero h = absurd (omega arith)
      here (suc g) h = (g, refl)

  opened : walk_way (walk_deck d) ≡ cond (eqb i 0) (ended o.list) (cond (bad_link d 1 i o.list) (bad from)
      (go_on (step_way (walk_transcript d i (i ∷ o.list))) (λ q. walk_way (transcripts_from some.0 d i (next_of d i) q))))
  opened = sym o.same ∙ ap (λ (f : ℕ). walk_way (transcripts_from f d from i o.list)) some.1 ∙ transcripts_way some.0 d from i o.list

  pub before_end : i ≡ 0 → Through d t
  before_end e = record { list = o.list; held = o.held; same = opened ∙ rw (eq-eqb i 0 e) }

  module _ (e : i ≡ 0 → ⊥) where
    abbrev link : Link
    link = record { kind = Transcript; from = from; to = i }

    pub before_bad : is_bad d link t ≡ true → Stops d (link_refusal from)
    before_bad g = record { holder = from; refused = refl; same = opened ∙ rw (ne_eqb i 0 e, test_is d link t o.list o.held, g) }

    module _ (c : record_count d ≤ 4096) where
      pub inner_start : is_bad d link t ≡ false → Inner d i t (with_record t i) 0 (exon_link d i i (half d i 10))
      inner_start g =
          let h = o.held in
          let f = fewer d link t o.list h c g in
          let r = h.room in
          let k = some.1 in
          let w = o.enough in
          let m : record_count d ≡ suc (record_count d - 1) = omega arith in
          let p : go_on (step_way (walk_transcript d i (i ∷ o.list))) (λ q. walk_way (transcripts_from some.0 d i (next_of d i) q)) ≡ walk_way (walk_deck d) =
          sym (opened ∙ rw (ne_eqb i 0 e, test_is d link t o.list h, g)) in
          let s : step_way (walk_transcript d i (i ∷ o.list)) ≡ resume d i 0 (record_count d - 1) (exon_link d i i (half d i 10)) (i ∷ o.list) =
          transcript_way d i (i ∷ o.list) ∙ ap (λ (x : ℕ). go_on (chain_way (chain_from x d 3 i (half d i 10) (i ∷ o.list))) (bounds_way d i)) m
          ∙ exon_resume d i 0 (record_count d - 1) i (half d i 10) (i ∷ o.list) in
          record {
            list = i ∷ o.list;
            held = one_more d link t o.list h c g;
            in_i = good_inside d link t g;
            in_b = omega arith;
            in_from = exon_from d i i (half d i 10) (record_count d) (good_inside d link t g) (good_inside d link t g);
            fuel = record_count d - 1;
            enough = omega arith;
            next = some.0;
            enough_next = omega arith;
            falls = omega arith;
            same = ap (λ (x : Way). go_on x (λ q. walk_way (transcripts_from some.0 d i (next_of d i) q))) (sym s) ∙ p;
          }

module _ (d : List ℕ) (i : ℕ) (start t : Trail) (b : ℕ) (link : Link) (o : Inner d i start t b link) where
  module _ (e : link.to ≡ 0 → ⊥) where
    module _ (c : record_count d ≤ 4096) where
      module _ (g : is_bad d link t ≡ false) where
        pub inner_fewer : suc (left d (with_record t link.to)) ≡ left d t
        inner_fewer = fewer d link t o.list o.held c g

        taken_up : Resumed (after d i b o.fuel link.kind link.to (link.to ∷ o.list)) d i (bounds_after b link.kind link.to) (next_link d i b link.kind link.to) (link.to ∷ o.list) (left d (with_record t link.to))
        taken_up =
            let f = inner_fewer in
            let r = o.held.room in
            let w = o.enough in
            after_resume d (record_count d - 1) (omega arith) i b o.fuel link.kind link.to (link.to ∷ o.list) (left d (with_record t link.to)) (omega arith) (omega arith)

        pub inner_step : Inner d i start (with_record t link.to) (bounds_after b link.kind link.to) (next_link d i b link.kind link.to)
        inner_step =
            let f = inner_fewer in
            let h = o.held in
            let w = o.enough_next in
            let v = o.falls in
            let u : resume d i b o.fuel link o.list ≡ after d i b o.fuel link.kind link.to (link.to ∷ o.list) =
            rw (ne_eqb link.to 0 e, test_is d link t o.list h, g) in
            record {
              list = link.to ∷ o.list;
              held = one_more d link t o.list h c g;
              in_i = o.in_i;
              in_b = bounds_from b link.kind link.to (record_count d) o.in_b (good_inside d link t g);
              in_from = next_from d i b link.kind link.to o.in_i o.in_b (good_inside d link t g);
              fuel = taken_up.fuel;
              enough = taken_up.enough;
              next = o.next;
              enough_next = omega arith;
              falls = omega arith;
              same = ap (λ (x : Way). go_on x (λ r. walk_way (transcripts_from o.next d i (next_of d i) r))) (sym taken_up.same ∙ sym u) ∙ o.same;
            }
