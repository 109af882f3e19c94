-- Exons and segments that are lent as lists of numbers, at an index.
-- Assumes nothing.
use Prim.Native.Nat.{ℕ, zero, suc, ◌-◌, ◌≤◌, ◌<◌}
use mathlib.Core.Path.{◌≡◌, refl, sym, ◌∙◌, ap}
use mathlib.Core.Bool.{Bool, false, not}
use mathlib.Core.List.{List, [], ◌∷◌, map}
use native.Mathlib.Omega.{arith}
use lib.ListN.{length, get_or, drop}
use Rattle.std.specs.Prelude.{◌||◌}
use Rattle.std.specs.List.{list_any, zip}
use Rattle.common.specs.Lists.{any}
use lib.Dec.{ltb}
use borrow.Author.Tests.{ltb-true, ltb-false, not-false}
use Rattle.common.proofs.TestParts.{or_false}
use Rattle.common.proofs.Lists.{any_end, any_none}
use Rattle.transcript.specs.declared.Strand.{Strand}
use Rattle.transcript.specs.Limits.{coordinate_limit}
use Rattle.transcript.specs.Orient.{Interval, interval, orient, orient_exon}
use Rattle.transcript.specs.Bases.{first_start, end_after}
use Rattle.transcript.specs.Admission.{bad_exon}
use Rattle.transcript.specs.declared.Exon.{Exon}
use Rattle.transcript.specs.Transcript.{exons_of}

abbrev pub exon : ℕ → ℕ → Exon
exon s e = record { genomic_start = s; genomic_end = e }

pub exons_length : (ss es : List ℕ) → length ss ≡ length es → length (exons_of ss es) ≡ length ss
unfolding exons_of
exons_length [] es h = refl
exons_length (s ∷ ss) [] h = absurd (omega arith)
exons_length (s ∷ ss) (e ∷ es) h = ap suc (exons_length ss es (omega arith))

pub exons_at : (ss es : List ℕ) (k : ℕ) → length ss ≡ length es → k < length ss → get_or (exons_of ss es) k (exon 0 0) ≡ exon (get_or ss k 0) (get_or es k 0)
unfolding exons_of
exons_at [] es k h l = absurd (omega arith)
exons_at (s ∷ ss) [] k h l = absurd (omega arith)
exons_at (s ∷ ss) (e ∷ es) zero h l = refl
exons_at (s ∷ ss) (e ∷ es) (suc k) h l = exons_at ss es k (omega arith) (omega arith)

-- a test of exons, as one of the two lists side by side
pub any_exons : (f : Exon → Bool) (ss es : List ℕ) → any f (exons_of ss es) ≡ list_any (λ (x : ℕ × ℕ). f (exon x.0 x.1)) (zip ss es)
unfolding exons_of
any_exons f [] es = refl
any_exons f (s ∷ ss) [] = refl
any_exons f (s ∷ ss) (e ∷ es) = ap (λ (b : Bool). f (exon s e) || b) (any_exons f ss es)

-- a loop over the two lists, with a test of an exon
module _ (f : Exon → Bool) (ss es : List ℕ) (i : ℕ) (q : length ss ≡ length es) where
  pub exons_end : i ≡ length ss → any f (drop i (exons_of ss es)) ≡ false
  exons_end e = any_end f (exons_of ss es) i (e ∙ sym (exons_length ss es q))

-- exons in oriented coordinates, at an index
abbrev pub nowhere : Interval
nowhere = interval 0 0

module _ (σ : Strand) where
  pub oriented_length : (ss es : List ℕ) → length ss ≡ length es → length (map (orient_exon σ) (exons_of ss es)) ≡ length ss
  unfolding exons_of
  oriented_length [] es h = refl
  oriented_length (s ∷ ss) [] h = absurd (omega arith)
  oriented_length (s ∷ ss) (e ∷ es) h = ap suc (oriented_length ss es (omega arith))

  pub oriented_at : (ss es : List ℕ) (k : ℕ) → length ss ≡ length es → k < length ss → get_or (map (orient_exon σ) (exons_of ss es)) k nowhere ≡ orient σ (get_or ss k 0) (get_or es k 0)
  unfolding exons_of
  oriented_at [] es k h l = absurd (omega arith)
  oriented_at (s ∷ ss) [] k h l = absurd (omega arith)
  oriented_at (s ∷ ss) (e ∷ es) zero h l = refl
  oriented_at (s ∷ ss) (e ∷ es) (suc k) h l = oriented_at ss es k (omega arith) (omega arith)

-- good edges, at an index
pub edges_at : (ss es : List ℕ) (k : ℕ) → any bad_exon (exons_of ss es) ≡ false → length ss ≡ length es → k < length ss → (get_or ss k 0 < get_or es k 0) × (get_or es k 0 ≤ coordinate_limit)
unfolding exons_of
edges_at [] es k h q l = absurd (omega arith)
edges_at (s ∷ ss) [] k h q l = absurd (omega arith)
edges_at (s ∷ ss) (e ∷ es) zero h q l =
    let n = any_none bad_exon (exon s e) (exons_of ss es) h in
    let g = or_false (not (ltb s e)) (ltb coordinate_limit e) n.0 in
    (ltb-true s e (not-false (ltb s e) g.0), ltb-false coordinate_limit e g.1)
edges_at (s ∷ ss) (e ∷ es) (suc k) h q l =
    let n = any_none bad_exon (exon s e) (exons_of ss es) h in
    edges_at ss es k n.1 (omega arith) (omega arith)

-- where the first exon starts and the last one ends
pub first_at : (xs : List Interval) → 0 < length xs → first_start xs ≡ (get_or xs 0 nowhere).start
first_at [] l = absurd (omega arith)
first_at (x ∷ xs) l = refl

pub last_at : (e : ℕ) (xs : List Interval) (k : ℕ) → length xs ≡ suc k → end_after e xs ≡ (get_or xs k nowhere).end
unfolding end_after
last_at e [] k h = absurd (omega arith)
last_at e (x ∷ []) zero h = refl
last_at e (x ∷ []) (suc k) h = absurd (omega arith)
last_at e (x ∷ y ∷ ys) zero h = absurd (omega arith)
last_at e (x ∷ y ∷ ys) (suc k) h = last_at x.end (y ∷ ys) k (omega arith)

-- the edges that the outer exons give
module _ (σ : Strand) (ss es : List ℕ) (q : length ss ≡ length es) (some : 0 < length ss) where
  pub outer_start : first_start (map (orient_exon σ) (exons_of ss es)) ≡ (orient σ (get_or ss 0 0) (get_or es 0 0)).start
  outer_start = let n = oriented_length σ ss es q in
      first_at (map (orient_exon σ) (exons_of ss es)) (omega arith) ∙ ap (λ (x : Interval). x.start) (oriented_at σ ss es 0 q some)

  pub outer_end : end_after 0 (map (orient_exon σ) (exons_of ss es)) ≡ (orient σ (get_or ss (length ss - 1) 0) (get_or es (length ss - 1) 0)).end
  outer_end = let n = oriented_length σ ss es q in
      last_at 0 (map (orient_exon σ) (exons_of ss es)) (length ss - 1) (omega arith)
      ∙ ap (λ (x : Interval). x.end) (oriented_at σ ss es (length ss - 1) q (omega arith))
