-- Refusals 1 to 13: whether a transcript is admitted.
use Rattle.std.specs.Prelude.{ℕ, ◌-◌, Bool, true, not, ◌&&◌, ◌||◌, List, [], ◌∷◌, Option, Some, None, Result, map, ◌≡◌, length, leb, ltb, eqb}
use Rattle.common.specs.Refuse.{refuse, or_else}
use Rattle.common.specs.declared.refusal.Refusal.{Refusal}
use Rattle.common.specs.Refusal.{outcome}
use Rattle.common.specs.Lists.{any, memb}
use Rattle.transcript.specs.declared.TranscriptModel.{TranscriptModel}
use Rattle.transcript.specs.declared.CdsBounds.{CdsBounds}
use Rattle.transcript.specs.declared.Exon.{Exon}
use Rattle.transcript.specs.declared.CdsSegment.{CdsSegment}
use Rattle.transcript.specs.Limits.{max_exons, max_selenocysteine, coordinate_limit, last_chromosome}
use Rattle.transcript.specs.Transcript.{Transcript, cds_start, cds_end, is_empty}
use Rattle.transcript.specs.Orient.{Interval, orient, Oriented, oriented}
use Rattle.transcript.specs.Bases.{inside_any, first_start, last_end}
use Rattle.transcript.specs.Cuts.{cut_of, cuts, same_cuts}

-- 0 or over 512 exons, another exon_count, more segments than exons, over 64 selenocysteine bases
abbrev pub bad_numbers : ℕ → ℕ → ℕ → ℕ → Bool
bad_numbers count exons segments bases =
    eqb exons 0 || (ltb max_exons exons || (not (eqb count exons) || (ltb exons segments || ltb max_selenocysteine bases)))

-- 1: 0 or over 512 exons, exon_count differs, more segments than exons, over 64 selenocysteine bases
unfoldable pub bad_counts : Transcript → Bool
bad_counts t = bad_numbers t.model.exon_count (length t.exons) (length t.segments) (length t.selenocysteine)

-- an interval with start not below end or end over the limit
abbrev pub bad_edges : ℕ → ℕ → Bool
bad_edges s e = not (ltb s e) || ltb coordinate_limit e

abbrev pub over_limit : ℕ → Bool
over_limit p = ltb coordinate_limit p

abbrev pub bad_exon : Exon → Bool
bad_exon x = bad_edges x.genomic_start x.genomic_end

abbrev pub bad_segment : CdsSegment → Bool
bad_segment g = bad_edges g.genomic_start g.genomic_end

-- a transcript bound, a CDS bound or the chromosome out of range
abbrev pub bad_scalars : TranscriptModel → Bool
bad_scalars m =
    over_limit m.tx_start || (over_limit m.tx_end
    || (over_limit (cds_start m.cds) || (over_limit (cds_end m.cds)
    || (eqb m.chromosome 0 || ltb last_chromosome m.chromosome))))

-- 2: exon or segment with start not below end, a coordinate over the limit, chromosome outside 1 to 25
unfoldable pub bad_coordinates : Transcript → Bool
bad_coordinates t = any bad_exon t.exons || (any bad_segment t.segments || (any over_limit t.selenocysteine || bad_scalars t.model))

-- each interval starts at or after the end of the one before it; the first, at or after e
unfoldable pub ascending : ℕ → List Interval → Bool
ascending e [] = true
ascending e (x ∷ xs) = leb e x.start && ascending x.end xs

-- 3: exons not disjoint in strand order (touching is allowed)
abbrev pub bad_order : Oriented → Bool
bad_order o = not (ascending 0 o.exons)

-- the interval does not begin where the first exon starts and end where the last exon ends
abbrev pub not_outer : Interval → List Interval → Bool
not_outer x xs = not (eqb x.start (first_start xs)) || not (eqb x.end (last_end xs))

-- 4: tx bounds are not the outer exon edges
abbrev pub bad_bounds : Transcript → Oriented → Bool
bad_bounds t o = not_outer (orient t.model.strand t.model.tx_start t.model.tx_end) o.exons

-- CDS bounds without segments or the reverse, or CDS start not below end; `segments`: there are some
abbrev pub bad_cds_bounds : Option CdsBounds → Bool → Bool
bad_cds_bounds None segments = segments
bad_cds_bounds (Some b) segments = not segments || not (ltb b.cds_genomic_start b.cds_genomic_end)

-- 5: CDS bounds without segments or the reverse, or CDS start not below end
abbrev pub bad_cds : Transcript → Bool
bad_cds t = bad_cds_bounds t.model.cds (not (is_empty t.segments))

abbrev pub over_two : CdsSegment → Bool
over_two g = ltb 2 g.phase

-- 6: a phase over 2
abbrev pub bad_phase : Transcript → Bool
bad_phase t = any over_two t.segments

-- 7: pad not 0 with cds_start_complete
abbrev pub bad_pad : Oriented → Bool
bad_pad o = not (eqb o.pad 0) && o.start_complete

abbrev pub index_of : CdsSegment → ℕ
index_of g = g.exon_index

-- the first index that names none of n exons, or one that an earlier index names
unfoldable pub index_fault : ℕ → List ℕ → List ℕ → ℕ
index_fault n earlier [] = 0
index_fault n earlier (i ∷ is) = refuse (leb n i) 8 (refuse (memb i earlier) 9 (index_fault n (i ∷ earlier) is))

-- 8, 9: the first segment at fault names a missing exon, or one that an earlier segment names
abbrev pub segment_fault : Transcript → ℕ
segment_fault t = index_fault (length t.exons) [] (map index_of t.segments)

-- 10: first coding base in no exon
abbrev pub lacks_first : Oriented → Bool
lacks_first o = o.coding && not (inside_any o.cds.start o.exons)

-- 11: last coding base in no exon
abbrev pub lacks_last : Oriented → Bool
lacks_last o = o.coding && not (inside_any (o.cds.end - 1) o.exons)

-- 12: segments are not the nonempty exon-CDS intersections in strand order, each with its exon's index
abbrev pub bad_segments : Transcript → Oriented → Bool
bad_segments t o = o.coding && not (same_cuts (map (cut_of t.model.strand) t.segments) (cuts o.cds 0 o.exons))

abbrev pub in_none : List Interval → ℕ → Bool
in_none xs b = not (inside_any b xs)

-- 13: a selenocysteine base in no segment
abbrev pub bad_selenocysteine : Oriented → Bool
bad_selenocysteine o = any (in_none o.segments) o.selenocysteine

-- the number of a transcript's first refusal in the order of document 01, 0 where it is admitted
unfoldable pub admission : Transcript → ℕ
admission t =
    refuse (bad_counts t) 1
    (refuse (bad_coordinates t) 2
    (refuse (bad_order (oriented t)) 3
    (refuse (bad_bounds t (oriented t)) 4
    (refuse (bad_cds t) 5
    (refuse (bad_phase t) 6
    (refuse (bad_pad (oriented t)) 7
    (or_else (segment_fault t)
    (refuse (lacks_first (oriented t)) 10
    (refuse (lacks_last (oriented t)) 11
    (refuse (bad_segments t (oriented t)) 12
    (refuse (bad_selenocysteine (oriented t)) 13 0)))))))))))

-- the transcript is admitted
abbrev pub Admitted : Transcript → Type 0
Admitted t = admission t ≡ 0

-- whether the transcript is admitted, as an answer
abbrev pub admission_of : Transcript → Result (Unit {0}) Refusal
admission_of t = outcome (admission t) tt
