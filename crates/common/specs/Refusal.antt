-- Refusals and their numbers.
use Rattle.std.specs.Prelude.{ℕ, cond, List, [], ◌∷◌, eqb, get_or, Result, Ok, Err}
use Rattle.common.specs.declared.refusal.Refusal.{Refusal}
use Rattle.common.specs.declared.refusal.Refusal.TheVariants.{Counts, Coordinates, ExonOrder, OuterBounds, CdsBounds, Phase, Pad, MissingExon, RepeatedExon, FirstCodingBase, LastCodingBase, Segments, Selenocysteine, Chromosome, Interval, AlteredBase, OutsideWindow, ReferenceBase, Distal, CodonOutsideWindow, DeckLength, Record, Link, NoTranscript, CallLine, FileLength, LineLength}

abbrev pub number : Refusal → ℕ
number Counts = 1
number Coordinates = 2
number ExonOrder = 3
number OuterBounds = 4
number CdsBounds = 5
number Phase = 6
number Pad = 7
number MissingExon = 8
number RepeatedExon = 9
number FirstCodingBase = 10
number LastCodingBase = 11
number Segments = 12
number Selenocysteine = 13
number Chromosome = 14
number Interval = 15
number AlteredBase = 16
number OutsideWindow = 17
number ReferenceBase = 18
number Distal = 19
number CodonOutsideWindow = 21
number DeckLength = 22
number Record = 23
number Link = 24
number NoTranscript = 25
number CallLine = 26
number FileLength = 27
number LineLength = 28

-- the refusals by number, from 0 on; where a number is none's, another stands
abbrev pub refusals : List Refusal
refusals =
    Counts ∷ Counts ∷ Coordinates ∷ ExonOrder ∷ OuterBounds ∷ CdsBounds ∷ Phase ∷ Pad ∷ MissingExon ∷ RepeatedExon ∷ FirstCodingBase
    ∷ LastCodingBase ∷ Segments ∷ Selenocysteine ∷ Chromosome ∷ Interval ∷ AlteredBase ∷ OutsideWindow ∷ ReferenceBase ∷ Distal ∷ Counts
    ∷ CodonOutsideWindow ∷ DeckLength ∷ Record ∷ Link ∷ NoTranscript ∷ CallLine ∷ FileLength ∷ LineLength ∷ []

-- the refusal of a number
abbrev pub refusal : ℕ → Refusal
refusal n = get_or refusals n Counts

-- the answer where the number is 0, else the refusal
abbrev pub outcome : {A : Type 0} → ℕ → A → Result A Refusal
outcome n x = cond (eqb n 0) (Ok x) (Err (refusal n))

-- the refusal's number, 0 where there is an answer
abbrev pub outcome_number : {A : Type 0} → Result A Refusal → ℕ
outcome_number (Ok x) = 0
outcome_number (Err r) = number r
