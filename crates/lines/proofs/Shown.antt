-- Codons as they are shown.
-- Assumes nothing.
use Prim.Native.Nat.{ℕ, ◌≤◌}
use mathlib.Core.Path.{◌≡◌}
use mathlib.Core.List.{[], ◌∷◌, ◌++◌}
use native.Mathlib.Omega.{arith}
use lib.ListN.{length, length-take}
use lib.Seq.{take_all}
use Rattle.codon.specs.declared.Codon.{Codon}
use Rattle.codon.specs.Display.{shown, format_codon}

module _ (c : Codon) (place : ℕ) where
  pub codon_0 : c.len ≡ 0 → format_codon c place ≡ []
  unfolding format_codon
  codon_0 e = rw e

  pub codon_1 : c.len ≡ 1 → format_codon c place ≡ shown place 0 c.first ∷ []
  unfolding format_codon
  codon_1 e = rw e

  pub codon_2 : c.len ≡ 2 → format_codon c place ≡ (shown place 0 c.first ∷ []) ++ (shown place 1 c.second ∷ [])
  unfolding format_codon
  codon_2 e = rw e

  pub codon_3 : 3 ≤ c.len → format_codon c place ≡ ((shown place 0 c.first ∷ []) ++ (shown place 1 c.second ∷ [])) ++ (shown place 2 c.third ∷ [])
  unfolding format_codon
  codon_3 h = take_all c.len (shown place 0 c.first ∷ shown place 1 c.second ∷ shown place 2 c.third ∷ []) h

  pub codon_length_lem : length (format_codon c place) ≤ 3
  unfolding format_codon
  codon_length_lem = let e = length-take c.len (shown place 0 c.first ∷ shown place 1 c.second ∷ shown place 2 c.third ∷ []) in omega arith
