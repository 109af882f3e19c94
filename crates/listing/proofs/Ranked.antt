-- Every answered entry has a term.
-- Assumes nothing.
use Rattle.std.specs.Prelude.{Err, Ok}
use Prim.Native.Nat.{ℕ, suc}
use mathlib.Core.Path.{◌≡◌, refl, sym}
use mathlib.Core.List.{List, [], ◌∷◌}
use Rattle.common.proofs.TestParts.{true_false}
use Rattle.footprint.specs.Ranges.{source_ranges}
use Rattle.transcript.specs.Transcript.{Transcript}
use Rattle.consequence.specs.declared.Call.{Call}
use Rattle.consequence.specs.Called.{Called}
use Rattle.consequence.specs.Window.{Window}
use Rattle.consequence.proofs.SomeTerm.{some_term}
use Rattle.std.specs.Prelude.{Option, Some, None}
use Rattle.listing.specs.Calls.{parse_call}
use Rattle.listing.specs.Entries.{listed_call, call_entry, call_entries, entries}
use Rattle.listing.specs.claims.Numbers.{Each}
use Rattle.listing.specs.claims.Ranks.{Ranked, EntriesRanked}
use Rattle.listing.proofs.NumbersGiven.{each_of}

entry_ranked : (w : Window) (number : ℕ) (q : Call) (t : Transcript) → Ranked (call_entry w number q t)
entry_ranked w number q t = here (listed_call t w q) refl
  where
    here : (a : Called) → listed_call t w q ≡ a → Ranked (record { number = number; id = t.model.id; answer = a })
    here (Ok a) e h = some_term source_ranges t w q a e
    here (Err r) e h = absurd (true_false (sym h))

call_ranked : (ts : List Transcript) (w : Window) (number : ℕ) (p : Option Call) → Each Ranked (call_entries ts w number p)
call_ranked ts w number (Some q) = each_of Ranked (call_entry w number q) (entry_ranked w number q) ts
call_ranked ts w number None = (λ h. absurd (true_false (sym h)), tt)

pub entries_ranked : EntriesRanked
unfolding entries
entries_ranked ts w number [] = tt
entries_ranked ts w number (l ∷ ls) = (call_ranked ts w number (parse_call l), entries_ranked ts w (suc number) ls)
