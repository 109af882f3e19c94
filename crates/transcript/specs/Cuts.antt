-- The coding parts of exons: the nonempty intersections of the exons with the CDS, each with its exon's index.
use Rattle.std.specs.Prelude.{ℕ, suc, min, max, Bool, true, false, ◌&&◌, List, [], ◌∷◌, ltb, eqb}
use Rattle.common.specs.Lists.{cons_if}
use Rattle.transcript.specs.declared.Strand.{Strand}
use Rattle.transcript.specs.declared.CdsSegment.{CdsSegment}
use Rattle.transcript.specs.Orient.{Interval, interval, orient_segment}

-- a CDS segment: an exon's index and its coding bases
pub record Cut : Type 0 where
  pub index : ℕ
  pub bases : Interval

abbrev pub cut_at : ℕ → Interval → Cut
cut_at i x = record { index = i; bases = x }

abbrev pub cut_of : Strand → CdsSegment → Cut
cut_of strand g = cut_at g.exon_index (orient_segment strand g)

-- the bases that two intervals share
abbrev pub meet : Interval → Interval → Interval
meet x y = interval (max x.start y.start) (min x.end y.end)

-- the nonempty intersections of the exons with the CDS, each with its exon's index; the first exon has index k
unfoldable pub cuts : Interval → ℕ → List Interval → List Cut
cuts cds k [] = []
cuts cds k (x ∷ xs) =
    cons_if (ltb (meet x cds).start (meet x cds).end) (cut_at k (meet x cds)) (cuts cds (suc k) xs)

abbrev pub same_cut : Cut → Cut → Bool
same_cut c d = eqb c.index d.index && (eqb c.bases.start d.bases.start && eqb c.bases.end d.bases.end)

unfoldable pub same_cuts : List Cut → List Cut → Bool
same_cuts [] [] = true
same_cuts [] (d ∷ ds) = false
same_cuts (c ∷ cs) [] = false
same_cuts (c ∷ cs) (d ∷ ds) = same_cut c d && same_cuts cs ds
