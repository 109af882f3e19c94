-- The refusals of a transcript that is lent, in the order in which the code judges them, as tests of its lists.
use Rattle.std.specs.Prelude.{ℕ, ◌≤◌, ◌<◌, ◌≡◌, [], length, Bool, false, not, ◌&&◌, ◌||◌, ltb, eqb}
use Rattle.std.specs.List.{list_any}
use Rattle.common.specs.Refuse.{refuse, or_else}
use Rattle.common.specs.Lists.{any}
use Rattle.transcript.specs.declared.Transcript.{Transcript as Lent}
use Rattle.transcript.specs.declared.Intervals.{Intervals}
use Rattle.transcript.specs.Limits.{max_exons, coordinate_limit}
use Rattle.transcript.specs.Transcript.{even_lists, cds_start, cds_end}
use Rattle.transcript.specs.Orient.{interval, orient, orient_bounds}
use Rattle.transcript.specs.Bases.{inside}
use Rattle.transcript.specs.Admission.{bad_numbers, bad_edges, bad_exon, over_limit, bad_scalars, ascending, not_outer, bad_cds_bounds, index_fault}
use Rattle.transcript.specs.code.Lent.{exons_in, oriented_in, any_lent, cuts_in, phases_over, pad_of_phases, cds_fault}

-- 1
abbrev pub bad_lengths : Lent → Bool
bad_lengths t =
    not (even_lists t.exons.starts.now t.exons.ends.now t.segments.phases.now t.segments.exon_indexes.now t.segments.bases.starts.now t.segments.bases.ends.now)
    || bad_numbers t.model.exon_count (length t.exons.starts.now) (length t.segments.bases.starts.now) (length t.selenocysteine.now)

-- 2
abbrev pub bad_lent : Lent → Bool
bad_lent t =
    any_lent bad_edges t.exons || (any_lent bad_edges t.segments.bases || (list_any over_limit t.selenocysteine.now || bad_scalars t.model))

-- what the tests of 1 leave for the later ones
pub record IsCounted (t : Lent) : Type 0 where
  pub even : length t.exons.starts.now ≡ length t.exons.ends.now
  pub even_phases : length t.segments.bases.starts.now ≡ length t.segments.phases.now
  pub even_indexes : length t.segments.bases.starts.now ≡ length t.segments.exon_indexes.now
  pub even_ends : length t.segments.bases.starts.now ≡ length t.segments.bases.ends.now
  pub some : 0 < length t.exons.starts.now
  pub few : length t.exons.starts.now ≤ max_exons

-- and those of 2
pub record IsBounded (t : Lent) : Type 0 where
  pub exon_edges : any bad_exon (exons_in t.exons) ≡ false
  pub segment_edges : any bad_exon (exons_in t.segments.bases) ≡ false
  pub start_low : t.model.tx_start ≤ coordinate_limit
  pub end_low : t.model.tx_end ≤ coordinate_limit
  pub cds_start_low : cds_start t.model.cds ≤ coordinate_limit
  pub cds_end_low : cds_end t.model.cds ≤ coordinate_limit

-- 3, 4
abbrev pub order_fault : Lent → ℕ
order_fault t =
    refuse (not (ascending 0 (oriented_in t.model.strand t.exons))) 3
    (refuse (not_outer (orient t.model.strand t.model.tx_start t.model.tx_end) (oriented_in t.model.strand t.exons)) 4 0)

-- 5, 6, 7
abbrev pub frame_fault : Lent → ℕ
frame_fault t =
    refuse (bad_cds_bounds t.model.cds (ltb 0 (length t.segments.bases.starts.now))) 5
    (refuse (phases_over t.segments.phases.now) 6
    (refuse (not (eqb (pad_of_phases t.segments.phases.now) 0) && t.model.cds_start_complete) 7 0))

-- 10, 11, 12
abbrev pub lent_cds_fault : Lent → ℕ
lent_cds_fault t =
    cds_fault (ltb 0 (length t.segments.bases.starts.now)) (orient_bounds t.model.strand t.model.cds) (oriented_in t.model.strand t.exons) (cuts_in t.model.strand t.segments)

-- 8 to 12
abbrev pub segments_fault : Lent → ℕ
segments_fault t = or_else (index_fault (length t.exons.starts.now) [] t.segments.exon_indexes.now) (lent_cds_fault t)

-- 13: no interval holds the base
abbrev pub lent_none : Intervals → ℕ → Bool
lent_none x b = not (any_lent (λ s e. inside b (interval s e)) x)
