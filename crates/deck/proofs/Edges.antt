-- The outer edges of exons that are lent as two lists.
-- Assumes nothing.
use Prim.Native.Nat.{ℕ, ◌-◌}
use mathlib.Core.Path.{◌≡◌, refl}
use mathlib.Core.List.{List, [], ◌∷◌}
use native.Mathlib.Omega.{arith}
use lib.ListN.{length, get_or}
use Rattle.transcript.specs.declared.Strand.TheVariants.{Plus, Minus}
use Rattle.transcript.specs.declared.Exon.{Exon}
use Rattle.transcript.specs.Transcript.{exons_of}
use Rattle.transcript.proofs.Listed.{exons_length, exons_at}
use Rattle.deck.specs.Deck.{tx_bounds}

abbrev pub exon : ℕ → ℕ → Exon
exon s e = record { genomic_start = s; genomic_end = e }

pub plus_edges : (ss es : List ℕ) → length ss ≡ length es → exon (get_or ss 0 0) (get_or es (length es - 1) 0) ≡ tx_bounds Plus (exons_of ss es)
unfolding exons_of
plus_edges [] [] e = refl
plus_edges [] (x ∷ es) e = absurd (omega arith)
plus_edges (s ∷ ss) es e =
    rw (exons_length (s ∷ ss) es e, exons_at (s ∷ ss) es 0 e (omega arith), exons_at (s ∷ ss) es (length (s ∷ ss) - 1) e (omega arith), e)

pub minus_edges : (ss es : List ℕ) → length ss ≡ length es → exon (get_or ss (length ss - 1) 0) (get_or es 0 0) ≡ tx_bounds Minus (exons_of ss es)
unfolding exons_of
minus_edges [] [] e = refl
minus_edges [] (x ∷ es) e = absurd (omega arith)
minus_edges (s ∷ ss) es e =
    rw (exons_length (s ∷ ss) es e, exons_at (s ∷ ss) es 0 e (omega arith), exons_at (s ∷ ss) es (length (s ∷ ss) - 1) e (omega arith))
