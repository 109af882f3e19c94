-- The codon numbers of an index.
-- Assumes nothing.
use Prim.Native.Nat.{ℕ, ◌+◌, ◌-◌, ◌/◌}
use mathlib.Core.Path.{◌≡◌, sym, ◌∙◌, ap}
use mathlib.Core.List.{List}
use lib.ListN.{length, take, replicate, length-map}
use lib.Seq.{take_at}
use Rattle.common.specs.Lists.{memb}
use Rattle.transcript.specs.Orient.{Oriented}
use Rattle.locate.specs.Place.{cds_offset}
use Rattle.common.specs.Stored.{filled}
use Rattle.locate.specs.Index.{selenocysteine_codons}
use Rattle.consequence.specs.Reading.{holds_selenocysteine}

-- the numbers in front of the zeros are those of the selenocysteine bases
pub front : (t : Oriented) (codons : List ℕ) (count number : ℕ) → count ≡ length t.selenocysteine → codons ≡ filled 64 (selenocysteine_codons t)
    → memb number (take count codons) ≡ holds_selenocysteine t number
unfolding holds_selenocysteine
front t codons count number e h =
    let n = length-map t.selenocysteine (λ b. cds_offset t b / 3 + 1) in
    ap (memb number) (ap (take count) h ∙ take_at (selenocysteine_codons t) (replicate (64 - length (selenocysteine_codons t)) 0) count (n ∙ sym e))
