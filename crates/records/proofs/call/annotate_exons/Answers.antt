use mathlib.Core.Path.{◌≡◌, subst}
use Rattle.std.proofs.lemmas.Result.{err_from_is_err_and}
use Rattle.transcript.specs.Transcript.{Transcript}
use Rattle.footprint.specs.Ranges.{source_ranges}
use Rattle.consequence.specs.Window.{window_of}
use Rattle.consequence.specs.Call.{annotate_snv}
use Rattle.records.proofs.Tables.{call_refused, lent_is, refused_is}
use Rattle.records.proofs.call.annotate_exons.Goals as goal

pub returns-in_err-transcript : goal.returns-in_err-transcript
returns-in_err-transcript c =
    let a = c.args in
    let g = a.segments in
    let p = err_from_is_err_and c.from_residual.result c.from_residual.ensures.1 in
    let q = refused_is a.model _ g a.selenocysteine.now c.transcript_on.result c.transcript_on.ensures c.in_err-transcript.field-0.0 c.in_err-transcript.was in
    rw (p.1, p.2, q.0)
    (call_refused a.model a.exons.now g.phases.now g.exon_indexes.now g.bases.starts.now g.bases.ends.now a.selenocysteine.now (window_of a.window.now) a.call (q.1 a.exons.now c.table_of-table.ensures))

pub returns : goal.returns
returns c =
    let a = c.args in
    let same = lent_is a.model _ a.segments a.selenocysteine.now c.transcript_on.result c.transcript_on.ensures c.in_ok-transcript.transcript c.in_ok-transcript.was a.exons.now c.table_of-table.ensures in
    subst (λ (t : Transcript). c.annotate_snv.result ≡ annotate_snv source_ranges t (window_of a.window.now) a.call) same c.annotate_snv.ensures
