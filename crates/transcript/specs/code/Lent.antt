-- Tests over lists that are lent apart, as the code reads them.
use Rattle.std.specs.Prelude.{ℕ, ◌-◌, ◌%◌, ◌≤◌, ◌≡◌, length, Bool, false, not, ◌&&◌, ◌||◌, List, [], ◌∷◌, map, ltb}
use Rattle.common.specs.Refuse.{refuse}
use Rattle.std.specs.List.{list_any, fold, zip}
use Rattle.common.specs.Lists.{any}
use Rattle.transcript.specs.declared.Strand.{Strand}
use Rattle.transcript.specs.declared.TranscriptModel.{TranscriptModel}
use Rattle.transcript.specs.declared.Exon.{Exon}
use Rattle.transcript.specs.declared.CdsBounds.{CdsBounds}
use Rattle.transcript.specs.declared.Intervals.{Intervals}
use Rattle.transcript.specs.declared.CdsSegments.{CdsSegments}
use Rattle.transcript.specs.Limits.{coordinate_limit}
use Rattle.transcript.specs.Transcript.{exons_of}
use Rattle.transcript.specs.Orient.{Interval, interval, orient, orient_exon}
use Rattle.transcript.specs.Bases.{inside, inside_any}
use Rattle.transcript.specs.Cuts.{Cut, cut_at, cuts, same_cuts}
use Rattle.transcript.specs.Admission.{bad_exon, over_limit, bad_scalars}

-- exons that are lent as two lists, oriented
abbrev pub lent_exons : Strand → List ℕ → List ℕ → List Interval
lent_exons strand starts ends = map (orient_exon strand) (exons_of starts ends)

-- the exons, or segments, of a struct that lends them
abbrev pub exons_in : Intervals → List Exon
exons_in x = exons_of x.starts.now x.ends.now

abbrev pub oriented_in : Strand → Intervals → List Interval
oriented_in strand x = lent_exons strand x.starts.now x.ends.now

-- some interval, its start and its end side by side, passes the test
abbrev pub any_lent : (ℕ → ℕ → Bool) → Intervals → Bool
any_lent f x = list_any (λ p. f p.0 p.1) (zip x.starts.now x.ends.now)

-- the length of an exon
abbrev pub exon_size : Exon → ℕ
exon_size x = x.genomic_end - x.genomic_start

-- the interval holds the base, in genomic coordinates
abbrev pub holds : ℕ → Exon → Bool
holds p x = inside p (interval x.genomic_start x.genomic_end)

-- none of the intervals holds the base
abbrev pub holds_none : List Exon → ℕ → Bool
holds_none xs p = not (any (holds p) xs)

abbrev pub phase_over : ℕ → Bool
phase_over p = ltb 2 p

-- some phase is over 2, gathered from the first to the last
abbrev pub phases_over : List ℕ → Bool
phases_over ps = fold (λ b p. b || phase_over p) false ps

-- segments lent apart, as cuts
unfoldable pub listed_cuts : Strand → List ℕ → List ℕ → List ℕ → List Cut
listed_cuts strand [] ss es = []
listed_cuts strand (i ∷ is) [] es = []
listed_cuts strand (i ∷ is) (s ∷ ss) [] = []
listed_cuts strand (i ∷ is) (s ∷ ss) (e ∷ es) = cut_at i (orient strand s e) ∷ listed_cuts strand is ss es

abbrev pub cuts_in : Strand → CdsSegments → List Cut
cuts_in strand g = listed_cuts strand g.exon_indexes.now g.bases.starts.now g.bases.ends.now

-- the pad of segments with these phases
abbrev pub pad_of_phases : List ℕ → ℕ
pad_of_phases [] = 0
pad_of_phases (p ∷ ps) = (3 - p) % 3

-- lists of exons and segments that can be oriented: of one length each, with good edges, and CDS bounds within the limit
pub record Cuttable (starts ends : List ℕ) (cds_start cds_end : ℕ) (indexes segment_starts segment_ends : List ℕ) : Type 0 where
  pub even : length starts ≡ length ends
  pub edges : any bad_exon (exons_of starts ends) ≡ false
  pub start_low : cds_start ≤ coordinate_limit
  pub end_low : cds_end ≤ coordinate_limit
  pub even_indexes : length segment_starts ≡ length indexes
  pub even_ends : length segment_starts ≡ length segment_ends
  pub segment_edges : any bad_exon (exons_of segment_starts segment_ends) ≡ false

abbrev pub IsCuttable : Intervals → CdsBounds → CdsSegments → Type 0
IsCuttable x cds g =
    Cuttable x.starts.now x.ends.now cds.cds_genomic_start cds.cds_genomic_end g.exon_indexes.now g.bases.starts.now g.bases.ends.now

-- 2, of lists of numbers
abbrev pub bad_listed : TranscriptModel → List ℕ → List ℕ → List ℕ → List ℕ → List ℕ → Bool
bad_listed m starts ends segment_starts segment_ends bases =
    any bad_exon (exons_of starts ends) || (any bad_exon (exons_of segment_starts segment_ends) || (any over_limit bases || bad_scalars m))

-- 10, 11, 12: of a CDS, exons and segments in oriented coordinates
abbrev pub cds_fault : Bool → Interval → List Interval → List Cut → ℕ
cds_fault coding cds exons segments =
    refuse (coding && not (inside_any cds.start exons)) 10
    (refuse (coding && not (inside_any (cds.end - 1) exons)) 11
    (refuse (coding && not (same_cuts segments (cuts cds 0 exons))) 12 0))
