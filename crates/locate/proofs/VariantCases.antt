-- The question of a place: a lemma for each of its answers.
-- Assumes nothing.
use Prim.Native.Nat.{ℕ}
use mathlib.Core.Path.{◌≡◌}
use mathlib.Core.Bool.{Bool, true, false, ◌||◌}
use lib.Dec.{eqb}
use Rattle.transcript.specs.Transcript.{Transcript}
use Rattle.transcript.specs.Orient.{orient_base, oriented}
use Rattle.transcript.specs.Admission.{admission, admission_of}
use Rattle.transcript.specs.Question.{bad_interval, is_elsewhere}
use Rattle.footprint.specs.declared.Ranges.{Ranges}
use Rattle.std.specs.Prelude.{Result, Ok, Err}
use Rattle.common.specs.declared.refusal.Refusal.{Refusal}
use Rattle.common.proofs.Outcome.{answered, refused_by}
use Rattle.locate.specs.Place.{locate}
use Rattle.locate.specs.Query.{locate_variant}
use Rattle.transcript.proofs.Asking.{elsewhere, not_elsewhere, by_admission, by_15, by_14, by_none}

module _ (r : Ranges) (t : Transcript) (c s e : ℕ) where
  abbrev bad : Bool
  bad = bad_interval s e || eqb s e

  pub is_refused_lem : (a : Result (Unit {0}) Refusal) (f : Refusal) → a ≡ admission_of t → a ≡ Err f → Err f ≡ locate_variant r t c s e
  unfolding locate_variant
  is_refused_lem a f h g = by_admission t a h (locate r (oriented t) (orient_base t.model.strand s)) f g bad (is_elsewhere t c)

  pub is_15 : admission t ≡ 0 → bad ≡ true → Err Refusal.Interval ≡ locate_variant r t c s e
  unfolding locate_variant
  is_15 h b = refused_by (locate r (oriented t) (orient_base t.model.strand s)) Refusal.Interval _ (by_15 t bad (is_elsewhere t c) h b)

  pub is_14 : admission t ≡ 0 → bad ≡ false → (c ≡ t.model.chromosome → ⊥) → Err Refusal.Chromosome ≡ locate_variant r t c s e
  unfolding locate_variant
  is_14 h b k = refused_by (locate r (oriented t) (orient_base t.model.strand s)) Refusal.Chromosome _ (by_14 t bad (is_elsewhere t c) h b (elsewhere t c k))

  pub is_at : admission t ≡ 0 → bad ≡ false → c ≡ t.model.chromosome → Ok (locate r (oriented t) (orient_base t.model.strand s)) ≡ locate_variant r t c s e
  unfolding locate_variant
  is_at h b k = answered (locate r (oriented t) (orient_base t.model.strand s)) _ (by_none t bad (is_elsewhere t c) h b (not_elsewhere t c k))
