-- The place of a lone position in an admitted transcript, case by case.
-- Assumes nothing.
use Prim.Native.Nat.{ℕ, ◌+◌, ◌≤◌, ◌<◌}
use mathlib.Core.Path.{◌≡◌, refl}
use mathlib.Core.Bool.{Bool, true, false, ◌||◌}
use native.Mathlib.Omega.{arith}
use lib.Dec.{eqb, ltb}
use borrow.Author.Tests.{lt-ltb, le-ltb, ne_eqb}
use Rattle.transcript.specs.Limits.{query_limit}
use Rattle.transcript.specs.Transcript.{Transcript}
use Rattle.transcript.specs.Orient.{orient_base, oriented}
use Rattle.transcript.specs.Admission.{admission}
use Rattle.transcript.specs.Question.{bad_interval}
use Rattle.footprint.specs.declared.Ranges.{Ranges}
use Rattle.std.specs.Prelude.{Ok, Err}
use Rattle.common.specs.declared.refusal.Refusal.{Refusal}
use Rattle.locate.specs.Place.{locate}
use Rattle.locate.specs.Query.{locate_position}
use Rattle.locate.proofs.VariantCases.{is_15 as by_15, is_14 as by_14, is_at as by_place}

-- a base at or over the limit, and one below it
bad_base : (p : ℕ) → query_limit ≤ p → (bad_interval p (p + 1) || eqb p (p + 1)) ≡ true
bad_base p h = rw (lt-ltb query_limit (p + 1) (omega arith)) (either (ltb query_limit p))
  where
    either : (b : Bool) → (b || true || ltb (p + 1) p || eqb p (p + 1)) ≡ true
    either true = refl
    either false = refl

good_base : (p : ℕ) → p < query_limit → (bad_interval p (p + 1) || eqb p (p + 1)) ≡ false
good_base p h = rw (le-ltb query_limit p (omega arith), le-ltb query_limit (p + 1) (omega arith), le-ltb (p + 1) p (omega arith), ne_eqb p (p + 1) (λ z. (omega arith)))

module _ (r : Ranges) (t : Transcript) (c p : ℕ) (h : admission t ≡ 0) where
  pub is_15 : query_limit ≤ p → Err Refusal.Interval ≡ locate_position r t c p
  is_15 l = by_15 r t c p (p + 1) h (bad_base p l)

  pub is_14 : p < query_limit → (c ≡ t.model.chromosome → ⊥) → Err Refusal.Chromosome ≡ locate_position r t c p
  is_14 l k = by_14 r t c p (p + 1) h (good_base p l) k

  pub is_at : p < query_limit → c ≡ t.model.chromosome → Ok (locate r (oriented t) (orient_base t.model.strand p)) ≡ locate_position r t c p
  is_at l k = by_place r t c p (p + 1) h (good_base p l) k
