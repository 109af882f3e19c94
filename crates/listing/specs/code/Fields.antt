-- What single fields of a call stand for.
use Rattle.std.specs.Prelude.{ℕ, Bool, cond, not, ◌&&◌, List, length, get_or, eqb, Option, Some, None}
use Rattle.lines.specs.Line.{newline}
use Rattle.listing.specs.Calls.{is_number, value}

abbrev pub number_in : ℕ → List ℕ → Option ℕ
number_in most l = cond (is_number most l) (Some (value l)) None

-- one byte, which is no newline
abbrev pub is_base : List ℕ → Bool
is_base l = eqb (length l) 1 && not (eqb (get_or l 0 0) newline)

-- the same with a newline behind it
abbrev pub is_last_base : List ℕ → Bool
is_last_base l = eqb (length l) 2 && eqb (get_or l 1 0) newline && not (eqb (get_or l 0 0) newline)

abbrev pub base_by : Bool → List ℕ → Option ℕ
base_by is l = cond is (Some (get_or l 0 0)) None
