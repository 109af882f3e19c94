-- When one transcript is longer than another. `S` is the shorter and `L` the longer.
use Rattle.std.specs.Prelude.{ℕ, ◌+◌, ◌-◌, ◌≤◌, Bool, true, ◌&&◌, ◌||◌, List, [], ◌∷◌, ◌++◌, map, ◌≡◌, length, leb, ltb}
use Rattle.common.specs.Lists.{memb}
use Rattle.transcript.specs.declared.CdsSegment.{CdsSegment}
use Rattle.footprint.specs.Ranges.{splice_region_exon_max, frameshift_intron_max_gap}
use Rattle.transcript.specs.Transcript.{Transcript}
use Rattle.transcript.specs.Orient.{Interval, interval, oriented}
use Rattle.transcript.specs.Bases.{first_start, last_end}

-- the first exon begins at a
abbrev pub start_at : ℕ → List Interval → List Interval
start_at a [] = []
start_at a (x ∷ xs) = interval a x.end ∷ xs

-- x and the exons after it, the last of which ends at b
unfoldable pub end_at_from : ℕ → Interval → List Interval → List Interval
end_at_from b x [] = interval x.start b ∷ []
end_at_from b x (y ∷ ys) = x ∷ end_at_from b y ys

-- the last exon ends at b
abbrev pub end_at : ℕ → List Interval → List Interval
end_at b [] = []
end_at b (x ∷ xs) = end_at_from b x xs

-- where the first exon of the list starts, or a where there is none
abbrev pub start_or : ℕ → List Interval → ℕ
start_or a [] = a
start_or a (x ∷ xs) = x.start

-- more than 13 bases from the end of each exon to the next one, and from the last to a
unfoldable pub spaced_up_to : ℕ → List Interval → Bool
spaced_up_to a [] = true
spaced_up_to a (x ∷ xs) = ltb (x.end + frameshift_intron_max_gap) (start_or a xs) && spaced_up_to a xs

-- more than 13 bases from e to the first exon, and from the end of each exon to the next one
unfoldable pub spaced_from : ℕ → List Interval → Bool
spaced_from e [] = true
spaced_from e (x ∷ xs) = ltb (e + frameshift_intron_max_gap) x.start && spaced_from x.end xs

-- The longer lists added exons `before`, the shorter's exons, the first of which may begin farther 5' and the last end farther 3',
-- then added exons `after`, with at least 14 bases between an added exon and its neighbours. Ids and exon indexes may differ.
pub record Longer (S L : Transcript) : Type 0 where
  pub before : List Interval
  pub after : List Interval
  -- where the shorter's first exon begins and its last exon ends in the longer
  pub begin : ℕ
  pub finish : ℕ
  pub exons : (oriented L).exons ≡ before ++ (end_at finish (start_at begin (oriented S).exons) ++ after)
  pub begins : begin ≤ first_start (oriented S).exons
  pub ends : last_end (oriented S).exons ≤ finish
  pub spaced5 : spaced_up_to begin before ≡ true
  pub spaced3 : spaced_from finish after ≡ true
  pub chromosome : L.model.chromosome ≡ S.model.chromosome
  pub strand : L.model.strand ≡ S.model.strand
  pub cds : L.model.cds ≡ S.model.cds
  pub phases : map (λ (g : CdsSegment). g.phase) L.segments ≡ map (λ (g : CdsSegment). g.phase) S.segments
  pub start_mark : L.model.cds_start_complete ≡ S.model.cds_start_complete
  pub selenocysteine : (b : ℕ) → memb b L.selenocysteine ≡ memb b S.selenocysteine

-- a base is inside the shorter from its tx_start to just before its tx_end
abbrev pub inside_transcript : Transcript → ℕ → Bool
inside_transcript S p = leb S.model.tx_start p && ltb p S.model.tx_end

-- oriented base p is within 3 bases of the first exon's start a, exons being added before it, or of the last exon's end b, exons being added after it
abbrev pub near_ends : List Interval → List Interval → ℕ → ℕ → ℕ → Bool
near_ends before after a b p =
    (ltb 0 (length before) && leb (p - a + 1) splice_region_exon_max)
    || (ltb 0 (length after) && leb (b - p) splice_region_exon_max)
