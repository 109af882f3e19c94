-- Which exon or intron holds a base: a walk over the oriented exons.
use Rattle.std.specs.Prelude.{ℕ, suc, cond, List, [], ◌∷◌, ltb}
use Rattle.transcript.specs.Orient.{Interval, interval}

-- an exon with its index, an intron with the index of the exon before it and its bases, or neither
pub data Found : Type 0 where
  in_exon : ℕ → Interval → Found
  in_intron : ℕ → Interval → Found
  outside : Found

-- exon i ended at e, at or before the base: the gap to the next exon, that exon, or what lies after it
unfoldable pub find_after : ℕ → ℕ → List Interval → ℕ → Found
find_after i e [] p = outside
find_after i e (x ∷ xs) p =
    cond (ltb p x.start) (in_intron i (interval e x.start))
    (cond (ltb p x.end) (in_exon (suc i) x)
    (find_after (suc i) x.end xs p))

-- the exon or intron of a base that is at or after the start of the first exon
unfoldable pub find_exon_or_intron : List Interval → ℕ → Found
find_exon_or_intron [] p = outside
find_exon_or_intron (x ∷ xs) p = cond (ltb p x.end) (in_exon 0 x) (find_after 0 x.end xs p)
