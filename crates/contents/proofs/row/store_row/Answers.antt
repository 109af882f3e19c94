use mathlib.Core.Path.{◌≡◌, ◌∙◌}
use lib.ListN.{length}
use Rattle.transcript.specs.Transcript.{Transcript}
use Rattle.deck.specs.code.Table.{transcript_in}
use Rattle.contents.specs.Contents.{scalar_words, scalars_of, exon_starts, exon_ends, segment_phases, segment_exons, segment_starts, segment_ends, bases_of}
use Rattle.contents.proofs.Parted.{exon_starts_in, exon_ends_in, segments_in, scalars_in, bases_in_lem}
use Rattle.contents.proofs.Chosen.{put_one}
use Rattle.contents.proofs.row.store_row.Goals as goal

pub returns : goal.returns
returns c =
    let a = c.args in
    let l = a.lists in
    let t : Transcript = transcript_in a.table.now a.rows in
    let s = segments_in a.table.now a.rows c.requires in
    let words : scalar_words c.model_in-model.result (length c.segment_starts-segments.result.now) (length c.bases-bases.result.now) ≡ scalars_of t =
    rw (c.model_in-model.ensures, c.segment_starts-segments.ensures, c.bases-bases.ensures) (scalars_in a.table.now a.rows c.requires) in (
      put_one t scalars_of l.scalars.now c.store_scalars.ensures words,
      put_one t exon_starts l.exon_starts.now c.store.ensures (c.exon_starts.ensures.0 ∙ exon_starts_in a.table.now a.rows c.requires),
      put_one t exon_ends l.exon_ends.now c.store-2.ensures (c.exon_ends.ensures.0 ∙ exon_ends_in a.table.now a.rows c.requires),
      put_one t segment_phases l.seg_phases.now c.store-3.ensures (c.segment_phases.ensures ∙ s.0),
      put_one t segment_exons l.seg_exons.now c.store-4.ensures (c.segment_exons.ensures ∙ s.1),
      put_one t segment_starts l.seg_starts.now c.store-5.ensures (c.segment_starts-segments.ensures ∙ s.2),
      put_one t segment_ends l.seg_ends.now c.store-6.ensures (c.segment_ends.ensures ∙ s.3),
      put_one t bases_of l.selenocysteine.now c.store-7.ensures (c.bases-bases.ensures ∙ bases_in_lem a.table.now a.rows c.requires),
    )
