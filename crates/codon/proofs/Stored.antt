-- The altered letters as they are stored, and one law from an entry to the letter of a codon.
-- Assumes nothing.
use Prim.Native.Nat.{ℕ, ◌+◌, ◌*◌, ◌-◌, ◌/◌, ◌%◌, ◌<◌}
use mathlib.Core.Path.{◌≡◌, ◌∙◌}
use mathlib.Core.Bool.{cond}
use mathlib.Core.List.{List}
use Rattle.std.proofs.Common.{Some}
use native.Mathlib.Omega.{arith}
use lib.ListN.{length, get_or, drop, length-drop}
use lib.Seq.{get_or-drop}
use lib.Dec.{ltb}
use borrow.Author.Tests.{lt-ltb, le-ltb}
use Rattle.codon.specs.declared.Codon.{Codon}
use Rattle.codon.specs.declared.GeneticCode.{GeneticCode}
use Rattle.codon.specs.Table.{code_table, codon_to_index, translate_codon, build_alt_codon}
use Rattle.codon.specs.Altered.{altered_letter}
use Rattle.codon.specs.code.Letters.{entry_by_place, AlteredLetters, BothLetters}
use Rattle.codon.proofs.Index.{found}
use Rattle.codon.proofs.Replaced.{altered_is}

in_order :
    (table : List ℕ) (codon place base : ℕ) → codon < 64 → base < 4 →
    entry_by_place table (place * 256 + codon * 4 + base) ≡ altered_letter table (codon * 12 + place * 4 + base)
in_order table codon place base hc hb =
    let n = place * 256 + codon * 4 + base in
    let x : n / 4 % 64 ≡ codon = omega arith in
    let y : n / 256 ≡ place = omega arith in
    let z : n % 4 ≡ base = omega arith in
    rw (x, y, z)

-- the entry of a codon, a place and a base follows the rule
pub entry_of :
    {table letters : List ℕ} → AlteredLetters table letters →
    (codon place base : ℕ) → codon < 64 → place < 3 → base < 4 →
    get_or letters (place * 256 + codon * 4 + base) 0 ≡ altered_letter table (codon * 12 + place * 4 + base)
entry_of {table} a codon place base hc hp hb =
    a.entry (place * 256 + codon * 4 + base) (omega arith) ∙ in_order table codon place base hc hb

-- the entry of a codon with its own third base is the codon's letter
pub own_is :
    (table : List ℕ) (c : Codon) (n : ℕ) → codon_to_index c ≡ Some n →
    altered_letter table (n * 12 + 2 * 4 + n % 4) ≡ translate_codon table c
unfolding build_alt_codon
own_is table c n e =
    altered_is c c.third n (n % 4) (found c n e).third table 2 (omega arith) e

-- the letters of both codes in one row
abbrev pub each_entry : ℕ → ℕ
each_entry n = cond (ltb n 768) (entry_by_place (code_table GeneticCode.Standard) n) (entry_by_place (code_table GeneticCode.VertebrateMitochondrial) (n - 768))

module _ (letters : List ℕ) (long : length letters ≡ 1536) (each : (n : ℕ) → n < 1536 → get_or letters n 0 ≡ each_entry n) where
  standard : (n : ℕ) → n < 768 → get_or letters n 0 ≡ entry_by_place (code_table GeneticCode.Standard) n
  standard n h = rw (lt-ltb n 768 h) at (each n (omega arith))

  mitochondrial : (n : ℕ) → n < 768 → get_or (drop 768 letters) n 0 ≡ entry_by_place (code_table GeneticCode.VertebrateMitochondrial) n
  mitochondrial n h =
      let x : 768 + n - 768 ≡ n = omega arith in
      get_or-drop 768 letters n 0 ∙ rw (le-ltb (768 + n) 768 (omega arith), x) at (each (768 + n) (omega arith))

  pub both_letters : BothLetters letters
  both_letters GeneticCode.Standard = record { long = omega arith; entry = standard }
  both_letters GeneticCode.VertebrateMitochondrial = record { long = let l = length-drop 768 letters in omega arith; entry = mitochondrial }
