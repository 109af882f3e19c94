-- The entries of a listing: what its lines say.
use Rattle.std.specs.Prelude.{Err, Ok}
use Rattle.std.specs.Prelude.{ℕ, suc, List, [], ◌∷◌, map, Option, Some, None}
use Rattle.common.specs.declared.refusal.Refusal.TheVariants.{CallLine}
use Rattle.footprint.specs.Ranges.{source_ranges}
use Rattle.terms.specs.Terms.{most_severe}
use Rattle.transcript.specs.Transcript.{Transcript}
use Rattle.consequence.specs.Window.{Window}
use Rattle.consequence.specs.declared.Call.{Call}
use Rattle.consequence.specs.Called.{Called}
use Rattle.consequence.specs.Call.{annotate_snv}
use Rattle.lines.specs.Line.{called_line}
use Rattle.listing.specs.Calls.{parse_call}

-- the number of the line of the calls, the transcript's id, and the answer
pub record Entry : Type 0 where
  pub number : ℕ
  pub id : ℕ
  pub answer : Called

abbrev pub entry_line : Entry → List ℕ
entry_line e = called_line e.number e.id e.answer

abbrev pub called_rank : Called → ℕ
called_rank (Ok a) = most_severe a.consequences.0
called_rank (Err r) = 0

-- the rank of the most severe term, 0 of a refusal
abbrev pub rank_of : Entry → ℕ
rank_of e = called_rank e.answer

-- the question that the lister asks, with the source's ranges
abbrev pub listed_call : Transcript → Window → Call → Called
listed_call t w q = annotate_snv source_ranges t w q

abbrev pub call_entry : Window → ℕ → Call → Transcript → Entry
call_entry w number q t = record { number = number; id = t.model.id; answer = listed_call t w q }

-- a line of another shape: 26 with id 0
abbrev pub malformed : ℕ → Entry
malformed number = record { number = number; id = 0; answer = Err CallLine }

-- one for each transcript in deck order, or the one of a malformed line
abbrev pub call_entries : List Transcript → Window → ℕ → Option Call → List Entry
call_entries ts w number (Some q) = map (call_entry w number q) ts
call_entries ts w number None = malformed number ∷ []

-- those of each line of the calls; the first has the number given
unfoldable pub entries : List Transcript → Window → ℕ → List (List ℕ) → List (List Entry)
entries ts w number [] = []
entries ts w number (l ∷ ls) = call_entries ts w number (parse_call l) ∷ entries ts w (suc number) ls
