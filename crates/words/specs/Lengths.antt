-- Whether lent lists and a buffer fit each other.
use Rattle.std.specs.Prelude.{ℕ, ◌*◌, Bool, ◌&&◌, List, length, eqb, ℤ}

-- the four lists have one length, and the buffer 20 elements for each call
abbrev pub calls_fit : List ℕ → List ℕ → List ℕ → List ℕ → List ℤ → Bool
calls_fit cs ps rs ls buffer =
    eqb (length cs) (length ps) && (eqb (length rs) (length ps) && (eqb (length ls) (length ps) && eqb (length buffer) (20 * length ps)))
