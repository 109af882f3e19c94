-- Every answered entry has a term.
use Rattle.std.specs.Prelude.{ℕ, ◌≤◌, ◌≡◌, true, List}
use Rattle.transcript.specs.Transcript.{Transcript}
use Rattle.consequence.specs.Window.{Window}
use Rattle.std.specs.Result.{is_ok}
use Rattle.listing.specs.Entries.{Entry, rank_of, entries}
use Rattle.listing.specs.claims.Numbers.{Each}

-- its most severe one is one of the 28
abbrev pub Ranked : Entry → Type 0
Ranked e = is_ok e.answer ≡ true → (1 ≤ rank_of e) × (rank_of e ≤ 28)

abbrev pub EntriesRanked : Type 0
EntriesRanked = (ts : List Transcript) (w : Window) (number : ℕ) (ls : List (List ℕ)) → Each (Each Ranked) (entries ts w number ls)
