-- Calls on one transcript through one window, alone and as a list.
use Rattle.std.specs.Prelude.{ℕ, List, [], ◌∷◌, map, ℤ}
use Rattle.common.specs.Lists.{concat}
use Rattle.transcript.specs.Transcript.{Transcript}
use Rattle.transcript.specs.Admission.{admission}
use Rattle.footprint.specs.declared.Ranges.{Ranges}
use Rattle.footprint.specs.Ranges.{source_ranges}
use Rattle.consequence.specs.declared.Call.{Call}
use Rattle.consequence.specs.Window.{Window}
use Rattle.common.specs.Refusal.{outcome_number}
use Rattle.consequence.specs.Numbers.{called_words}
use Rattle.consequence.specs.Call.{annotate_snv}
use Rattle.words.specs.Lengths.{calls_fit}
use Rattle.answers.specs.Left.{Answered, list_refusal}

-- a call by its four numbers
abbrev pub snv : ℕ → ℕ → ℕ → ℕ → Call
snv chromosome position ref alt = record { chromosome = chromosome; position = position; ref_base = ref; alt_base = alt }

-- the answer to a call in 20 numbers
abbrev pub call_words : Ranges → Transcript → Window → Call → List ℤ
call_words r t w q = called_words (annotate_snv r t w q)

abbrev pub CallAnswered : Transcript → Window → Call → List ℤ → List ℤ → ℕ → Type 0
CallAnswered t w q before after number =
    Answered (outcome_number (annotate_snv source_ranges t w q)) (call_words source_ranges t w q) before after number

-- calls lent as four lists; the shortest list decides
unfoldable pub calls_of : List ℕ → List ℕ → List ℕ → List ℕ → List Call
calls_of [] ps rs ls = []
calls_of (c ∷ cs) [] rs ls = []
calls_of (c ∷ cs) (p ∷ ps) [] ls = []
calls_of (c ∷ cs) (p ∷ ps) (r ∷ rs) [] = []
calls_of (c ∷ cs) (p ∷ ps) (r ∷ rs) (a ∷ ls) = snv c p r a ∷ calls_of cs ps rs ls

-- the answers to calls, 20 numbers each
abbrev pub calls_words : Ranges → Transcript → Window → List Call → List ℤ
calls_words r t w calls = concat (map (call_words r t w) calls)

-- only the transcript can be refused as a whole
abbrev pub CallsAnswered : Transcript → Window → List ℕ → List ℕ → List ℕ → List ℕ → List ℤ → List ℤ → ℕ → Type 0
CallsAnswered t w cs ps rs ls before after number =
    Answered (list_refusal (calls_fit cs ps rs ls before) (admission t)) (calls_words source_ranges t w (calls_of cs ps rs ls)) before after number
