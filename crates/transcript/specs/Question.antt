-- The refusals that every question shares: 1 to 13, then 15, then 14.
use Rattle.std.specs.Prelude.{ℕ, Bool, not, ◌||◌, ltb, eqb}
use Rattle.common.specs.Refuse.{refuse, or_else}
use Rattle.transcript.specs.Limits.{query_limit}
use Rattle.transcript.specs.Transcript.{Transcript}
use Rattle.transcript.specs.Admission.{admission}

-- start or end over the limit, or end below start
abbrev pub bad_interval : ℕ → ℕ → Bool
bad_interval s e = ltb query_limit s || ltb query_limit e || ltb e s

-- the chromosome is not the transcript's
abbrev pub is_elsewhere : Transcript → ℕ → Bool
is_elsewhere t chromosome = not (eqb chromosome t.model.chromosome)

-- 15 where the interval is bad, then 14 where a chromosome is not the transcript's, then what is judged later
abbrev pub query_refusal : Bool → Bool → ℕ → ℕ
query_refusal bad elsewhere later = refuse bad 15 (refuse elsewhere 14 later)

-- 1 to 13, then 15, then 14
unfoldable pub question_refusal : Transcript → Bool → Bool → ℕ
question_refusal t bad elsewhere = or_else (admission t) (query_refusal bad elsewhere 0)

-- the refusal of a question about [s, e), which may be empty
abbrev pub interval_refusal : Transcript → ℕ → ℕ → ℕ → ℕ
interval_refusal t chromosome s e = question_refusal t (bad_interval s e) (is_elsewhere t chromosome)

-- the refusal of a question about a place, which may not be empty
abbrev pub place_refusal : Transcript → ℕ → ℕ → ℕ → ℕ
place_refusal t chromosome s e = question_refusal t (bad_interval s e || eqb s e) (is_elsewhere t chromosome)
