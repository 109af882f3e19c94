-- The place of an exon base: a lemma for each case of its definition from counts.
-- Assumes nothing.
use Prim.Native.Nat.{ℕ, ◌+◌, ◌-◌, ◌≤◌, ◌<◌}
use mathlib.Core.Path.{◌≡◌, refl}
use mathlib.Core.Bool.{Bool}
use mathlib.Core.List.{List, [], ◌∷◌}
use native.Mathlib.Omega.{arith}
use lib.ListN.{length, get_or}
use lib.IntN.{pos}
use borrow.Author.Tests.{lt-ltb, le-ltb, le-leb, lt-leb}
use Rattle.locate.specs.declared.VariantLocation.TheVariants.{FivePrimeUtr, ThreePrimeUtr}
use Rattle.transcript.specs.Orient.{Interval}
use Rattle.locate.specs.Intronic.{minus}
use Rattle.locate.specs.Place.{cds_exon}
use Rattle.locate.specs.declared.exonic.Counts.{Counts}
use Rattle.locate.specs.code.Exonic.{exonic_of, head_of}

pub head_empty : (ns : List ℕ) → length ns ≡ 0 → 0 ≡ head_of ns
head_empty [] h = refl
head_empty (n ∷ ns) h = absurd (omega arith)

pub head_at : (ns : List ℕ) → 0 < length ns → get_or ns 0 0 ≡ head_of ns
head_at [] h = absurd (omega arith)
head_at (n ∷ ns) h = refl

module _ (c : Counts) (cds : Interval) (p i : ℕ) (mark : Bool) where
  pub is_five : p < cds.start → FivePrimeUtr i (minus (c.utr5 - c.before)) mark ≡ exonic_of c cds p i mark
  unfolding exonic_of
  is_five l = rw (lt-ltb p cds.start l)

  pub is_three : cds.start ≤ p → cds.end ≤ p → ThreePrimeUtr i (pos (c.before + 1 - c.coding_end)) mark ≡ exonic_of c cds p i mark
  unfolding exonic_of
  is_three l m = rw (le-ltb p cds.start l, le-leb cds.end p m)

  pub is_cds : cds.start ≤ p → p < cds.end → cds_exon i (i - c.first) (c.pad + (c.before - c.utr5)) mark ≡ exonic_of c cds p i mark
  unfolding exonic_of
  is_cds l m = rw (le-ltb p cds.start l, lt-leb cds.end p m)
