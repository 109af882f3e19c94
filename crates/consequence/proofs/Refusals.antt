-- The refusals of a call before its place is known, a case at a time.
-- Assumes nothing.
use Rattle.std.proofs.Common.{Option, Some, None}
use Prim.Native.Nat.{ℕ, ◌+◌, ◌≤◌, ◌<◌}
use mathlib.Core.Path.{◌≡◌, refl, sym, ◌∙◌, ap}
use mathlib.Core.Bool.{Bool, true, false, not, ◌||◌}
use native.Mathlib.Omega.{arith}
use lib.Dec.{eqb, ltb}
use borrow.Author.Tests.{lt-ltb, le-ltb, ltb-true, ltb-false, eq-eqb, ne_eqb}
use Rattle.common.proofs.TestParts.{on_test}
use Rattle.transcript.specs.Limits.{query_limit}
use Rattle.transcript.specs.Transcript.{Transcript}
use Rattle.transcript.specs.Admission.{admission}
use Rattle.transcript.specs.Question.{bad_interval, is_elsewhere}
use Rattle.consequence.specs.declared.Call.{Call}
use Rattle.consequence.specs.Window.{Window, in_window, byte_at, base_at}
use Rattle.consequence.specs.Call.{bad_alt, window_refusal, opening_refusal}

-- a base at or over the limit, and one below it
bad_base : (p : ℕ) → query_limit ≤ p → bad_interval p (p + 1) ≡ true
bad_base p h = rw (lt-ltb query_limit (p + 1) (omega arith)) (either (ltb query_limit p))
  where
    either : (b : Bool) → (b || true || ltb (p + 1) p) ≡ true
    either true = refl
    either false = refl

good_base : (p : ℕ) → p < query_limit → bad_interval p (p + 1) ≡ false
good_base p h = rw (le-ltb query_limit p (omega arith), le-ltb query_limit (p + 1) (omega arith), le-ltb (p + 1) p (omega arith))

-- a base read through the window
abbrev is_base : Option ℕ → Bool
is_base (Some b) = true
is_base None = false

abbrev byte_of : Option ℕ → ℕ
byte_of (Some b) = b
byte_of None = 0

module _ (w : Window) (q : Call) where
  inside_is : is_base (base_at w q.position) ≡ in_window w q.position
  unfolding base_at
  inside_is = on_test (in_window w q.position) (λ e. rw e) (λ e. rw e)

  pub is_17 : base_at w q.position ≡ None → 17 ≡ window_refusal w q
  is_17 e = let i : in_window w q.position ≡ false = sym inside_is ∙ ap is_base e in rw i

  module _ (b : ℕ) (e : base_at w q.position ≡ Some b) where
    inside_true : in_window w q.position ≡ true
    inside_true = sym inside_is ∙ ap is_base e

    byte_is : b ≡ byte_at w q.position
    unfolding base_at
    byte_is = let i = inside_true in sym (ap byte_of e) ∙ rw i

    pub is_18 : (q.ref_base ≡ b → ⊥) → 18 ≡ window_refusal w q
    is_18 f = let i = inside_true in rw (i, ne_eqb q.ref_base (byte_at w q.position) (λ z. f (z ∙ sym byte_is)))

    pub is_none : q.ref_base ≡ b → 0 ≡ window_refusal w q
    is_none f = let i = inside_true in rw (i, eq-eqb q.ref_base (byte_at w q.position) (f ∙ byte_is))

module _ (t : Transcript) (w : Window) (q : Call) (h : admission t ≡ 0) where
  abbrev away : Bool
  away = is_elsewhere t q.chromosome || is_elsewhere t w.chromosome

  abbrev bad : Bool
  bad = bad_interval q.position (q.position + 1)

  pub is_15 : query_limit ≤ q.position → 15 ≡ opening_refusal t w q
  unfolding opening_refusal
  is_15 l = rw (h, bad_base q.position l)

  module _ (l : q.position < query_limit) where
    pub is_14 : away ≡ true → 14 ≡ opening_refusal t w q
    unfolding opening_refusal
    is_14 a = rw (h, good_base q.position l, a)

    module _ (a : away ≡ false) where
      pub is_16 : bad_alt q ≡ true → 16 ≡ opening_refusal t w q
      unfolding opening_refusal
      is_16 b = rw (h, good_base q.position l, a, b)

      pub by_window : bad_alt q ≡ false → window_refusal w q ≡ opening_refusal t w q
      unfolding opening_refusal
      by_window b = rw (h, good_base q.position l, a, b)

  -- a call that is not refused so far asks within the limit
  pub opening_within : opening_refusal t w q ≡ 0 → q.position ≤ query_limit
  opening_within e = on_test (ltb q.position query_limit)
      (λ l. let u = ltb-true q.position query_limit l in omega arith)
      (λ l. absurd (let z = is_15 (ltb-false q.position query_limit l) in omega arith))

-- the chromosomes, compared with the transcript's
pub away_is : (t : Transcript) (w : Window) (q : Call) (n : ℕ) {r : Bool} → t.model.chromosome ≡ n → r ≡ (not (eqb q.chromosome n) || not (eqb w.chromosome n))
    → (is_elsewhere t q.chromosome || is_elsewhere t w.chromosome) ≡ r
away_is t w q n e h = ap (λ (k : ℕ). not (eqb q.chromosome k) || not (eqb w.chromosome k)) e ∙ sym h
