-- What an admitted transcript has, row by row of document 01. Later proofs cite these facts and do not open `admission`.
-- Assumes nothing.
use Prim.Native.Nat.{◌-◌, ◌≤◌, ◌<◌}
use mathlib.Core.Path.{◌≡◌}
use mathlib.Core.Bool.{true, false}
use mathlib.Core.List.{map}
use lib.ListN.{length}
use Rattle.common.specs.Lists.{any}
use Rattle.transcript.specs.Limits.{top, max_exons, max_selenocysteine, coordinate_limit, last_chromosome}
use Rattle.transcript.specs.Transcript.{Transcript, cds_start, cds_end, has_bounds}
use Rattle.transcript.specs.Orient.{orient, oriented}
use Rattle.transcript.specs.Bases.{inside_any, first_start, last_end}
use Rattle.transcript.specs.Admission.{bad_exon, bad_segment, over_limit, over_two, segment_fault, in_none}
use Rattle.transcript.specs.Cuts.{cut_of, cuts}
use Rattle.transcript.proofs.Ascends.{Ascends}
use Rattle.transcript.proofs.Cuts.{cut_bases}

pub record Facts (t : Transcript) : Type 0 where
  -- 1
  pub some : 0 < length t.exons
  pub few : length t.exons ≤ max_exons
  pub counted : t.model.exon_count ≡ length t.exons
  pub few_segments : length t.segments ≤ length t.exons
  pub few_bases : length t.selenocysteine ≤ max_selenocysteine
  -- 2
  pub exon_edges : any bad_exon t.exons ≡ false
  pub segment_edges : any bad_segment t.segments ≡ false
  pub tx_start_low : t.model.tx_start ≤ coordinate_limit
  pub tx_end_low : t.model.tx_end ≤ coordinate_limit
  pub cds_start_low : cds_start t.model.cds ≤ coordinate_limit
  pub cds_end_low : cds_end t.model.cds ≤ coordinate_limit
  pub bases_low : any over_limit t.selenocysteine ≡ false
  pub chromosome_from : 0 < t.model.chromosome
  pub chromosome_to : t.model.chromosome ≤ last_chromosome
  -- 3
  pub order : Ascends 0 (oriented t).exons
  pub high : last_end (oriented t).exons ≤ top
  -- 4
  pub begins : (orient t.model.strand t.model.tx_start t.model.tx_end).start ≡ first_start (oriented t).exons
  pub finishes : (orient t.model.strand t.model.tx_start t.model.tx_end).end ≡ last_end (oriented t).exons
  -- 5
  pub bounds : has_bounds t.model.cds ≡ (oriented t).coding
  pub cds_some : (oriented t).coding ≡ true → (oriented t).cds.start < (oriented t).cds.end
  pub cds_high : (oriented t).cds.end ≤ top
  -- 6
  pub phases : any over_two t.segments ≡ false
  -- 7
  pub pad_none : (oriented t).start_complete ≡ true → (oriented t).pad ≡ 0
  -- 8, 9
  pub indexes : segment_fault t ≡ 0
  -- 10, 11
  pub first_in : (oriented t).coding ≡ true → inside_any (oriented t).cds.start (oriented t).exons ≡ true
  pub last_in : (oriented t).coding ≡ true → inside_any ((oriented t).cds.end - 1) (oriented t).exons ≡ true
  -- 12, with or without a CDS
  pub cut : map (cut_of t.model.strand) t.segments ≡ cuts (oriented t).cds 0 (oriented t).exons
  pub segments : (oriented t).segments ≡ map cut_bases (cuts (oriented t).cds 0 (oriented t).exons)
  -- 13
  pub selenocysteine_in : any (in_none (oriented t).segments) (oriented t).selenocysteine ≡ false
