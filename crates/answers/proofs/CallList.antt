-- Calls lent as four lists of one length.
-- Assumes nothing.
use Prim.Native.Nat.{ℕ, zero, suc, ◌*◌, ◌<◌}
use mathlib.Core.Path.{◌≡◌, refl, ap}
use mathlib.Core.Bool.{true}
use mathlib.Core.List.{List, [], ◌∷◌}
use native.Mathlib.Omega.{arith}
use lib.ListN.{length, get_or}
use lib.Dec.{eqb}
use lib.IntN.{ℤ}
use borrow.Author.Tests.{eqb-true}
use Rattle.common.proofs.TestParts.{and_true}
use Rattle.words.specs.Lengths.{calls_fit}
use Rattle.answers.specs.Calls.{snv, calls_of}

-- the lengths are equal
pub record Even (cs ps rs ls : List ℕ) : Type 0 where
  pub chromosomes : length cs ≡ length ps
  pub refs : length rs ≡ length ps
  pub alts : length ls ≡ length ps

module _ (cs ps rs ls : List ℕ) (buffer : List ℤ) (h : calls_fit cs ps rs ls buffer ≡ true) where
  parts : Even cs ps rs ls × (length buffer ≡ 20 * length ps)
  parts =
      let a = and_true (eqb (length cs) (length ps)) _ h in
      let b = and_true (eqb (length rs) (length ps)) _ a.1 in
      let c = and_true (eqb (length ls) (length ps)) _ b.1 in
      (record { chromosomes = eqb-true _ _ a.0; refs = eqb-true _ _ b.0; alts = eqb-true _ _ c.0 }, eqb-true _ _ c.1)

  pub fit_even : Even cs ps rs ls
  fit_even = parts.0

  pub fit_room : length buffer ≡ 20 * length ps
  fit_room = parts.1

tail_even : {c p r l : ℕ} {cs ps rs ls : List ℕ} → Even (c ∷ cs) (p ∷ ps) (r ∷ rs) (l ∷ ls) → Even cs ps rs ls
tail_even e = record { chromosomes = omega arith; refs = omega arith; alts = omega arith }

pub calls_length : (cs ps rs ls : List ℕ) → Even cs ps rs ls → length (calls_of cs ps rs ls) ≡ length ps
unfolding calls_of
calls_length [] ps rs ls e = e.chromosomes
calls_length (c ∷ cs) [] rs ls e = refl
calls_length (c ∷ cs) (p ∷ ps) [] ls e = e.refs
calls_length (c ∷ cs) (p ∷ ps) (r ∷ rs) [] e = e.alts
calls_length (c ∷ cs) (p ∷ ps) (r ∷ rs) (l ∷ ls) e = ap suc (calls_length cs ps rs ls (tail_even e))

pub call_at : (cs ps rs ls : List ℕ) → Even cs ps rs ls → (i : ℕ) → i < length ps
    → get_or (calls_of cs ps rs ls) i (snv 0 0 0 0) ≡ snv (get_or cs i 0) (get_or ps i 0) (get_or rs i 0) (get_or ls i 0)
unfolding calls_of
call_at [] ps rs ls e i h = absurd (let k = e.chromosomes in omega arith)
call_at (c ∷ cs) [] rs ls e i h = absurd (omega arith)
call_at (c ∷ cs) (p ∷ ps) [] ls e i h = absurd (let k = e.refs in omega arith)
call_at (c ∷ cs) (p ∷ ps) (r ∷ rs) [] e i h = absurd (let k = e.alts in omega arith)
call_at (c ∷ cs) (p ∷ ps) (r ∷ rs) (l ∷ ls) e zero h = refl
call_at (c ∷ cs) (p ∷ ps) (r ∷ rs) (l ∷ ls) e (suc i) h = call_at cs ps rs ls (tail_even e) i (omega arith)
