-- A refusal stays, an answer takes the spill in.
use Rattle.std.specs.Prelude.{Ok}
use mathlib.Core.Path.{◌≡◌, sym, ◌∙◌, ap}
use Rattle.transcript.specs.Transcript.{Transcript, lent}
use Rattle.transcript.specs.Orient.{oriented}
use Rattle.locate.specs.declared.IndexScalars.{IndexScalars}
use Rattle.consequence.specs.code.AtPlace.{spill_at, spilled}
use Rattle.consequence.proofs.OnPrepared.{on_prepared}
use Rattle.consequence.proofs.Preparing.{exons_at}
use Rattle.std.proofs.lemmas.Result.{err_from_is_err_and}
use Rattle.consequence.proofs.placed.annotate_placed.Goals as goal
use Rattle.consequence.proofs.placed.annotate_placed.Goals.{Start}

-- a law about the transcript and its index, at them
abbrev transcript : Start → Transcript
transcript b = lent b.args.coded.transcript.now.model b.args.coded.transcript.now.exons.starts.now b.args.coded.transcript.now.exons.ends.now b.args.coded.transcript.now.segments.phases.now b.args.coded.transcript.now.segments.exon_indexes.now b.args.coded.transcript.now.segments.bases.starts.now b.args.coded.transcript.now.segments.bases.ends.now b.args.coded.transcript.now.selenocysteine.now

pub returns-in_err-result : goal.returns-in_err-result
returns-in_err-result c =
    let s = spill_at (oriented (transcript (goal.at.returns-in_err-result c).Start)) c.args.p in
    let p = err_from_is_err_and c.from_residual.result c.from_residual.ensures.1 in
    rw (p.1, p.2) (ap (spilled s) (sym c.in_err-result.was ∙ c.annotate_place.ensures))

pub spill_at-spill-requires : goal.spill_at-spill-requires
spill_at-spill-requires c = record { p_le_top = c.requires.low }

pub returns : goal.returns
returns c =
    let t = transcript (goal.at.returns c).Start in
    let s = c.spill_at-spill in
    let e : s.result ≡ spill_at (oriented t) c.args.p = s.ensures (oriented t) (let x = c.exons.ensures in rw (x.0, x.1) (on_prepared c.args.coded.transcript.now c.args.scalars c.args.cumulative_exons.now c.args.cumulative_cds.now c.args.selenocysteine_codons.now c.requires.prepared exons_at)) (ap (λ (x : IndexScalars). x.has_frameshift_intron) c.requires.prepared.scalars_are) in
    let f = sym c.in_ok-result.was ∙ c.annotate_place.ensures in
    ap Ok c.add_splice_spill.ensures ∙ (λ k. spilled (e k) (f k))
