-- Whether a gap holds an end of an interval, a case at a time, and one gap more in the search for the first that does.
-- Assumes nothing.
use Prim.Native.Nat.{ℕ, ◌+◌, ◌<◌}
use mathlib.Core.Path.{◌≡◌, sym, ◌∙◌, ap}
use mathlib.Core.Bool.{true, false, cond}
use mathlib.Core.List.{List}
use native.Mathlib.Omega.{arith}
use native.Mathlib.Numerals.{add-one}
use lib.ListN.{length, get_or, drop}
use lib.Seq.{drop-cons, drop-length}
use borrow.Author.Tests.{ne_eqb}
use Rattle.transcript.specs.Orient.{Interval}
use Rattle.transcript.specs.Bases.{inside}
use Rattle.transcript.proofs.Listed.{nowhere}
use Rattle.std.specs.Prelude.{Some, None}
use Rattle.footprint.specs.ShortIntron.{holds_end, ends_in, endpoint_from}

module _ (q gap : Interval) where
  pub first_in : q.start < q.end → inside q.start gap ≡ true → true ≡ holds_end q gap
  first_in h i = rw (i, ne_eqb q.start q.end (λ z. (omega arith)))

module _ (q : Interval) (gs : List Interval) (i : ℕ) (l : i < length gs) where
  endpoint_step : endpoint_from i q (drop i gs) ≡ cond (ends_in q (get_or gs i nowhere)) (Some i) (endpoint_from (i + 1) q (drop (i + 1) gs))
  unfolding endpoint_from
  endpoint_step = rw (drop-cons gs i nowhere l, add-one)

  pub endpoint_stop : ends_in q (get_or gs i nowhere) ≡ true → Some i ≡ endpoint_from i q (drop i gs)
  endpoint_stop h = sym (endpoint_step ∙ rw h)

  pub endpoint_go : ends_in q (get_or gs i nowhere) ≡ false → endpoint_from (i + 1) q (drop (i + 1) gs) ≡ endpoint_from i q (drop i gs)
  endpoint_go h = sym (endpoint_step ∙ rw h)

pub endpoint_none : (q : Interval) (gs : List Interval) (i : ℕ) → i ≡ length gs → None ≡ endpoint_from i q (drop i gs)
unfolding endpoint_from
endpoint_none q gs i h = sym (ap (λ (l : List Interval). endpoint_from i q l) (ap (λ (k : ℕ). drop k gs) h ∙ drop-length gs))
