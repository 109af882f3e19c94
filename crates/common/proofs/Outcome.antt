-- What the outcome of a refusal's number says, and how it is shown.
-- Assumes nothing.
use Rattle.std.proofs.Common.{◌≡◌, ℕ, true, false, ◌||◌, List, [], ◌∷◌, Ok, Err, refl, sym, ◌∙◌, ap}
use lib.Dec.{eqb}
use borrow.Author.Tests.{eqb-true}
use Rattle.common.specs.Lists.{all, memb}
use Rattle.common.specs.Refuse.{or_else}
use Rattle.common.specs.declared.refusal.Refusal.{Refusal}
use Rattle.common.specs.declared.refusal.Refusal.TheVariants.{Counts, Coordinates, ExonOrder, OuterBounds, CdsBounds, Phase, Pad, MissingExon, RepeatedExon, FirstCodingBase, LastCodingBase, Segments, Selenocysteine, Chromosome, Interval, AlteredBase, OutsideWindow, ReferenceBase, Distal, CodonOutsideWindow, DeckLength, Record, Link, NoTranscript, CallLine, FileLength, LineLength}
use Rattle.common.specs.Refusal.{number, refusal, outcome}
use Rattle.common.proofs.TestParts.{on_test, true_false, and_true}

-- each refusal is that of its number
refusal_number : (r : Refusal) → refusal (number r) ≡ r
refusal_number Counts = refl
refusal_number Coordinates = refl
refusal_number ExonOrder = refl
refusal_number OuterBounds = refl
refusal_number CdsBounds = refl
refusal_number Phase = refl
refusal_number Pad = refl
refusal_number MissingExon = refl
refusal_number RepeatedExon = refl
refusal_number FirstCodingBase = refl
refusal_number LastCodingBase = refl
refusal_number Segments = refl
refusal_number Selenocysteine = refl
refusal_number Chromosome = refl
refusal_number Interval = refl
refusal_number AlteredBase = refl
refusal_number OutsideWindow = refl
refusal_number ReferenceBase = refl
refusal_number Distal = refl
refusal_number CodonOutsideWindow = refl
refusal_number DeckLength = refl
refusal_number Record = refl
refusal_number Link = refl
refusal_number NoTranscript = refl
refusal_number CallLine = refl
refusal_number FileLength = refl
refusal_number LineLength = refl

-- and none has the number 0
some_number : (r : Refusal) → eqb (number r) 0 ≡ false
some_number Counts = refl
some_number Coordinates = refl
some_number ExonOrder = refl
some_number OuterBounds = refl
some_number CdsBounds = refl
some_number Phase = refl
some_number Pad = refl
some_number MissingExon = refl
some_number RepeatedExon = refl
some_number FirstCodingBase = refl
some_number LastCodingBase = refl
some_number Segments = refl
some_number Selenocysteine = refl
some_number Chromosome = refl
some_number Interval = refl
some_number AlteredBase = refl
some_number OutsideWindow = refl
some_number ReferenceBase = refl
some_number Distal = refl
some_number CodonOutsideWindow = refl
some_number DeckLength = refl
some_number Record = refl
some_number Link = refl
some_number NoTranscript = refl
some_number CallLine = refl
some_number FileLength = refl
some_number LineLength = refl

-- of numbers that are 0 or a refusal's, each that is not 0 is its refusal's
pub number_of_refusal : (ns : List ℕ) → all (λ n. eqb n 0 || eqb (number (refusal n)) n) ns ≡ true → (n : ℕ) → memb n ns ≡ true → eqb n 0 ≡ false
    → number (refusal n) ≡ n
number_of_refusal [] h n m z = absurd (true_false (sym m))
number_of_refusal (k ∷ ns) h n m z =
    let both = and_true (eqb k 0 || eqb (number (refusal k)) k) _ h in
    on_test (eqb n k)
    (λ e. let same = eqb-true n k e in
    let here : (eqb n 0 || eqb (number (refusal n)) n) ≡ true = ap (λ (i : ℕ). eqb i 0 || eqb (number (refusal i)) i) same ∙ both.0 in
    eqb-true (number (refusal n)) n (rw z at here))
    (λ e. number_of_refusal ns both.1 n (rw e at m) z)

module _ {A : Type 0} (x : A) where
  -- an answer, where nothing refuses
  pub answered : (n : ℕ) → n ≡ 0 → Ok x ≡ outcome n x
  answered n e = rw e

  -- a refusal, by its number
  pub refused_by : (r : Refusal) (n : ℕ) → n ≡ number r → Err r ≡ outcome n x
  refused_by r n e = rw (e, some_number r, refusal_number r)

  -- what an answer says
  pub was_answered : (n : ℕ) (y : A) → outcome n x ≡ Ok y → n ≡ 0
  was_answered n y h = on_test (eqb n 0) (λ e. eqb-true n 0 e) (λ e. absurd (let k : Err (refusal n) ≡ Ok y = sym (rw e) ∙ h in cc))

  -- what a refusal says
  pub was_refused : (n : ℕ) (r : Refusal) → outcome n x ≡ Err r → (eqb n 0 ≡ false) × (r ≡ refusal n)
  was_refused n r h = on_test (eqb n 0)
      (λ e. absurd (let k : Ok x ≡ Err r = sym (rw e) ∙ h in cc))
      (λ e. (e, let k : Err (refusal n) ≡ Err r = sym (rw e) ∙ h in cc))

-- a refusal is passed on as it is, whatever would have been answered
module _ {A B : Type 0} (x : A) (y : B) (n : ℕ) (r : Refusal) (h : outcome n x ≡ Err r) where
  pub passed_on : (m : ℕ) → m ≡ n → Err r ≡ outcome m y
  passed_on m e = let p = was_refused x n r h in rw (e, p.0, p.1)

  pub passed_first : (later : ℕ) → Err r ≡ outcome (or_else n later) y
  passed_first later = let p = was_refused x n r h in passed_on (or_else n later) (rw p.0)
