-- The formula gives the numbers of the letters and of the former table: antt computes all 256 and compares. So no letter changes.
-- Assumes nothing.
use Prim.Native.Nat.{ℕ, ◌<◌}
use mathlib.Core.Path.{◌≡◌, sym, ◌∙◌, ap}
use mathlib.Core.Bool.{Bool, true, false, cond}
use mathlib.Core.List.{List}
use Rattle.std.proofs.Common.{None}
use lib.Dec.{eqb}
use Rattle.common.proofs.Table.{entry_at}
use Rattle.codon.specs.declared.Codon.{Codon}
use Rattle.codon.specs.Bases.{base_number}
use Rattle.codon.specs.Table.{codon_to_index, reference_letter, translate_codon, translate_reference_codon, build_alt_codon}
use Rattle.codon.specs.claims.BaseNumbers.{number_by_letter, former_numbers, former_number, former_letter, OfBytes, NumbersByLetter, NoNumberChanges, NoLetterChanges}

pub numbers_by_letter : NumbersByLetter
unfolding base_number number_by_letter
numbers_by_letter b h = sym (entry_at base_number 256 b h None) ∙ entry_at number_by_letter 256 b h None

pub no_number_changes : NoNumberChanges
unfolding base_number former_numbers
no_number_changes b h = sym (entry_at base_number 256 b h None) ∙ entry_at former_number 256 b h None

same_letter : (table : List ℕ) (c : Codon) → OfBytes c → translate_codon table c ≡ former_letter table c
unfolding translate_codon codon_to_index
same_letter table c o =
    rw (no_number_changes c.first o.first, no_number_changes c.second o.second, no_number_changes c.third o.third)

put_in : (t : Bool) (b d : ℕ) → b < 256 → d < 256 → cond t b d < 256
put_in true b d hb hd = hb
put_in false b d hb hd = hd

pub no_letter_changes : NoLetterChanges
unfolding translate_reference_codon build_alt_codon
no_letter_changes table c o selenocysteine place b h = (
  ap (reference_letter selenocysteine c) (same_letter table c o),
  same_letter table (build_alt_codon c place b)
      (record {
        first = put_in (eqb place 0) b c.first h o.first;
        second = put_in (eqb place 1) b c.second h o.second;
        third = put_in (eqb place 2) b c.third h o.third;
      }),
)
