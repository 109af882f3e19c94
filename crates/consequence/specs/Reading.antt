-- Reading a codon: the coding bases at its padded offsets.
use Rattle.std.specs.Prelude.{ℕ, ◌+◌, ◌-◌, ◌%◌, Bool, true, false, cond, not, ◌&&◌, leb, ltb, eqb, Option, Some, None}
use Rattle.common.specs.Text.{byte}
use Rattle.common.specs.Lists.{memb}
use Rattle.transcript.specs.Orient.{Oriented}
use Rattle.locate.specs.Place.{coding_position, total_cds_length}
use Rattle.locate.specs.Index.{selenocysteine_codons}
use Rattle.codon.specs.declared.Codon.{Codon}

-- the base at padded offset k, where `view` gives the coding base at a position; a pad place reads N
unfoldable pub cds_base : Oriented → (ℕ → Option ℕ) → ℕ → Option ℕ
cds_base t view k = cond (ltb k t.pad) (Some (byte "N")) (view (coding_position t.segments (k - t.pad)))

-- of a CDS of that padded length, the padded offset lies in an unfinished last codon
abbrev pub incomplete_at : ℕ → ℕ → Bool
incomplete_at total k = not (eqb (total % 3) 0) && leb (total - total % 3) k

abbrev pub is_incomplete_terminal_codon : Oriented → ℕ → Bool
is_incomplete_terminal_codon t k = incomplete_at (total_cds_length t) k

-- how many bases the codon of a padded offset has
abbrev pub length_at : ℕ → ℕ → ℕ
length_at total k = cond (incomplete_at total k) (total % 3) 3

abbrev pub codon_length : Oriented → ℕ → ℕ
codon_length t k = length_at (total_cds_length t) k

-- a codon of n bases, where each of them was read
abbrev pub codon_of : ℕ → Option ℕ → Option ℕ → Option ℕ → Option Codon
codon_of n (Some a) (Some b) (Some c) = Some (record { len = n; first = a; second = b; third = c })
codon_of n (Some a) (Some b) None = None
codon_of n (Some a) None c = None
codon_of n None b c = None

-- the base where the codon has one there, else 0
abbrev pub if_there : Bool → Option ℕ → Option ℕ
if_there true b = b
if_there false b = Some 0

-- the codon of n bases from padded offset k on
unfoldable pub fetch_bases : Oriented → (ℕ → Option ℕ) → ℕ → ℕ → Option Codon
fetch_bases t view n k =
    codon_of n (cds_base t view k) (if_there (ltb 1 n) (cds_base t view (k + 1))) (if_there (ltb 2 n) (cds_base t view (k + 2)))

-- the codon that holds padded offset k
abbrev pub fetch_codon : Oriented → (ℕ → Option ℕ) → ℕ → Option Codon
fetch_codon t view k = fetch_bases t view (codon_length t k) (k - k % 3)

-- a selenocysteine base lies in the codon of that number
unfoldable pub holds_selenocysteine : Oriented → ℕ → Bool
holds_selenocysteine t n = memb n (selenocysteine_codons t)
