-- The rest of a transcript from one of its links on.
-- Assumes nothing.
use Prim.Native.Nat.{ℕ, zero, suc, ◌≤◌, ◌<◌}
use mathlib.Core.Path.{◌≡◌, refl, ◌∙◌, ap}
use mathlib.Core.Bool.{Bool, true, false, cond}
use mathlib.Core.List.{List, ◌∷◌}
use native.Mathlib.Omega.{arith}
use lib.Dec.{eqb}
use Rattle.deck.specs.declared.kind.Kind.{Kind}
use Rattle.deck.specs.declared.kind.Kind.TheVariants.{Head, Transcript, Bounds, Exon, Segment, Selenocysteine}
use Rattle.deck.specs.declared.links.Link.{Link}
use Rattle.deck.specs.Kind.{kind_number}
use Rattle.deck.specs.Records.{record_count, next_of, half}
use Rattle.deck.specs.Walk.{bad_link, chain_from, chain}
use Rattle.deck.specs.code.Links.{exon_link, segment_link, next_link, bounds_after}
use Rattle.deck.specs.code.Trail.{Way, ended, bad}
use Rattle.deck.proofs.Ways.{chain_way, go_on, coding_way, bounds_way, chain_way_lem}

-- what follows once record `at` of a kind is reached; f is the fuel of the chain that it stands in
abbrev pub after : List ℕ → ℕ → ℕ → ℕ → Kind → ℕ → List ℕ → Way
after d t b f Exon at r = go_on (chain_way (chain_from f d 3 at (next_of d at) r)) (bounds_way d t)
after d t b f Bounds at r = coding_way d at r
after d t b f Segment at r = go_on (chain_way (chain_from f d 4 at (next_of d at) r)) (λ r₁. chain_way (chain d 5 b (half d b 14) r₁))
after d t b f Head at r = chain_way (chain_from f d 5 at (next_of d at) r)
after d t b f Transcript at r = chain_way (chain_from f d 5 at (next_of d at) r)
after d t b f Selenocysteine at r = chain_way (chain_from f d 5 at (next_of d at) r)

-- what follows from a link on
abbrev pub resume : List ℕ → ℕ → ℕ → ℕ → Link → List ℕ → Way
resume d t b f l r =
    cond (eqb l.to 0) (ended r) (cond (bad_link d (kind_number l.kind) l.to r) (bad l.from) (after d t b f l.kind l.to (l.to ∷ r)))

-- the next link takes the walk up again, with some fuel that is enough for m records
pub record Resumed (w : Way) (d : List ℕ) (t b : ℕ) (l : Link) (r : List ℕ) (m : ℕ) : Type 0 where
  pub fuel : ℕ
  pub enough : m ≤ fuel
  pub same : w ≡ resume d t b fuel l r

exon_here : (s v : Bool) (d : List ℕ) (t b f from to : ℕ) (r : List ℕ) → eqb to 0 ≡ s → bad_link d 3 to r ≡ v
    → go_on (cond s (ended r) (cond v (bad from) (chain_way (chain_from f d 3 to (next_of d to) (to ∷ r))))) (bounds_way d t)
    ≡ resume d t b f (cond s (record { kind = Bounds; from = t; to = half d t 12 }) (record { kind = Exon; from = from; to = to })) r
exon_here true v d t b f from to r e g = refl
exon_here false true d t b f from to r e g = rw (e, g)
exon_here false false d t b f from to r e g = rw (e, g)

pub exon_resume : (d : List ℕ) (t b f from to : ℕ) (r : List ℕ) → go_on (chain_way (chain_from (suc f) d 3 from to r)) (bounds_way d t) ≡ resume d t b f (exon_link d t from to) r
exon_resume d t b f from to r = rw (chain_way_lem f d 3 from to r) (exon_here (eqb to 0) (bad_link d 3 to r) d t b f from to r refl refl)

module _ (d : List ℕ) (k : ℕ) (records : record_count d ≡ suc k) where
  tail : (t b : ℕ) (r : List ℕ) → chain_way (chain d 5 b (half d b 14) r) ≡ resume d t b k (record { kind = Selenocysteine; from = b; to = half d b 14 }) r
  tail t b r = ap (λ (n : ℕ). chain_way (chain_from n d 5 b (half d b 14) r)) records ∙ chain_way_lem k d 5 b (half d b 14) r

  segment_here : (s v : Bool) (t b f from to : ℕ) (r : List ℕ) (m : ℕ) → m ≤ f → m ≤ k → eqb to 0 ≡ s → bad_link d 4 to r ≡ v
      → Resumed (go_on (cond s (ended r) (cond v (bad from) (chain_way (chain_from f d 4 to (next_of d to) (to ∷ r))))) (λ r₁. chain_way (chain d 5 b (half d b 14) r₁))) d t b
      (cond s (record { kind = Selenocysteine; from = b; to = half d b 14 }) (record { kind = Segment; from = from; to = to })) r m
  segment_here true v t b f from to r m g h e i = record { fuel = k; enough = h; same = tail t b r }
  segment_here false true t b f from to r m g h e i = record { fuel = f; enough = g; same = rw (e, i) }
  segment_here false false t b f from to r m g h e i = record { fuel = f; enough = g; same = rw (e, i) }

  segment_resume : (t b f from to : ℕ) (r : List ℕ) (m : ℕ) → m ≤ f → m ≤ k
      → Resumed (go_on (chain_way (chain_from (suc f) d 4 from to r)) (λ r₁. chain_way (chain d 5 b (half d b 14) r₁))) d t b (segment_link d b from to) r m
  segment_resume t b f from to r m g h =
      rw (chain_way_lem f d 4 from to r) (segment_here (eqb to 0) (bad_link d 4 to r) t b f from to r m g h refl refl)

  coding_resume : (t b : ℕ) (r : List ℕ) (m : ℕ) → m ≤ k → Resumed (coding_way d b r) d t b (segment_link d b b (half d b 12)) r m
  coding_resume t b r m h = rw (ap (λ (n : ℕ). chain_from n d 4 b (half d b 12) r) records) (segment_resume t b k b (half d b 12) r m h h)

  after_here : (kind : Kind) (t b f at : ℕ) (r : List ℕ) (m : ℕ) → m ≤ f → m ≤ k
      → Resumed (after d t b (suc f) kind at r) d t (bounds_after b kind at) (next_link d t b kind at) r m
  after_here Exon t b f at r m g h = record { fuel = f; enough = g; same = exon_resume d t b f at (next_of d at) r }
  after_here Bounds t b f at r m g h = coding_resume t at r m h
  after_here Segment t b f at r m g h = segment_resume t b f at (next_of d at) r m g h
  after_here Head t b f at r m g h = record { fuel = f; enough = g; same = chain_way_lem f d 5 at (next_of d at) r }
  after_here Transcript t b f at r m g h = record { fuel = f; enough = g; same = chain_way_lem f d 5 at (next_of d at) r }
  after_here Selenocysteine t b f at r m g h = record { fuel = f; enough = g; same = chain_way_lem f d 5 at (next_of d at) r }

  -- a record is reached, and the next link takes over
  pub after_resume : (t b f : ℕ) (kind : Kind) (at : ℕ) (r : List ℕ) (m : ℕ) → m < f → m ≤ k
      → Resumed (after d t b f kind at r) d t (bounds_after b kind at) (next_link d t b kind at) r m
  after_resume t b zero kind at r m g h = absurd (omega arith)
  after_resume t b (suc f) kind at r m g h = after_here kind t b f at r m (omega arith) h
