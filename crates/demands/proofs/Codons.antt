-- The longer reads the same codons, letters and terms.
use Rattle.std.proofs.Common.{Option, Some, None}
use Prim.Native.Nat.{ℕ, ◌+◌, ◌/◌}
use mathlib.Core.Path.{◌≡◌, refl, sym, ◌∙◌}
use mathlib.Core.List.{List}
use lib.Dec.{eqb}
use Rattle.common.proofs.Lists.{any_map}
use Rattle.transcript.specs.Orient.{Oriented}
use Rattle.locate.specs.Place.{cds_offset}
use Rattle.consequence.specs.Reading.{cds_base, fetch_bases, fetch_codon, holds_selenocysteine}
use Rattle.consequence.specs.Coding.{shown_letters}
use Rattle.consequence.specs.Answer.{codon_columns}
use Rattle.demands.proofs.Alike.{Alike}
use Rattle.codon.specs.declared.Codon.{Codon}

module _ (S L : Oriented) (a : Alike S L) where
  pub same_codon : (view : ℕ → Option ℕ) (k : ℕ) → fetch_codon L view k ≡ fetch_codon S view k
  unfolding cds_base fetch_bases
  same_codon view k = rw (a.segments, a.pad)

  same_held : (n : ℕ) → holds_selenocysteine L n ≡ holds_selenocysteine S n
  unfolding holds_selenocysteine
  same_held n =
      any_map (eqb n) (λ b. cds_offset L b / 3 + 1) L.selenocysteine
      ∙ rw (a.segments, a.pad) (a.selenocysteine (λ b. eqb n (cds_offset S b / 3 + 1)))
      ∙ sym (any_map (eqb n) (λ b. cds_offset S b / 3 + 1) S.selenocysteine)

  pub same_columns : (code : List ℕ) (offset number k alt : ℕ) (c : Option Codon) → codon_columns code L offset number k alt c ≡ codon_columns code S offset number k alt c
  unfolding codon_columns shown_letters
  same_columns code offset number k alt (Some c) = rw (same_held number, a.segments, a.pad, a.start_complete)
  same_columns code offset number k alt None = refl
