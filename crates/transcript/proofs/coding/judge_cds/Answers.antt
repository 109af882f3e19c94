use mathlib.Core.Path.{◌≡◌}
use mathlib.Core.Bool.{false}
use Rattle.std.proofs.Common.{◌-◌, refl, sym, ◌∙◌}
use Rattle.common.specs.declared.refusal.Refusal.{Refusal}
use Rattle.common.proofs.Outcome.{answered, refused_by}
use Rattle.transcript.specs.Orient.{orient}
use Rattle.transcript.specs.Cuts.{cuts, same_cuts}
use Rattle.transcript.specs.code.Lent.{oriented_in, cuts_in}
use Rattle.transcript.proofs.CdsFault.{lacks_first_lem, lacks_last_lem, lacks_cuts, lacks_none, inside_at}
use Rattle.transcript.proofs.coding.judge_cds.Goals.{then-differ-via-then-differ, then-differ-via-else-differ+then-not-are_cuts}
use Rattle.transcript.proofs.coding.judge_cds.Goals as goal

pub returns-then-not-holds_base : goal.returns-then-not-holds_base
returns-then-not-holds_base c =
    let x = c.args.exons.intervals in
    let σ = c.args.exons.strand in
    let cds = orient σ c.args.cds.cds_genomic_start c.args.cds.cds_genomic_end in
    let f = inside_at σ x c.first_base-first.result c.holds_base.result (sym c.holds_base.ensures) c.requires.cuttable.edges cds.start c.first_base-first.ensures in
    refused_by tt Refusal.FirstCodingBase _ (sym (lacks_first_lem _ cds (oriented_in σ x) (cuts_in σ c.args.segments) refl (f ∙ c.if-not-holds_base.true)))

pub returns-then-not-holds_base-2 : goal.returns-then-not-holds_base-2
returns-then-not-holds_base-2 c =
    let x = c.args.exons.intervals in
    let σ = c.args.exons.strand in
    let cds = orient σ c.args.cds.cds_genomic_start c.args.cds.cds_genomic_end in
    let f = inside_at σ x c.first_base-first.result c.holds_base.result (sym c.holds_base.ensures) c.requires.cuttable.edges cds.start c.first_base-first.ensures in
    let l = inside_at σ x c.last_base-last.result c.holds_base-2.result (sym c.holds_base-2.ensures) c.requires.cuttable.edges (cds.end - 1) c.last_base-last.ensures in
    refused_by tt Refusal.LastCodingBase _ (sym (lacks_last_lem _ cds (oriented_in σ x) (cuts_in σ c.args.segments) refl (f ∙ c.if-not-holds_base.false) (l ∙ c.if-not-holds_base-2.true)))

pub returns-then-differ : goal.returns-then-differ
returns-then-differ c =
    let x = c.args.exons.intervals in
    let σ = c.args.exons.strand in
    let cds = orient σ c.args.cds.cds_genomic_start c.args.cds.cds_genomic_end in
    let f = inside_at σ x c.first_base-first.result c.holds_base.result (sym c.holds_base.ensures) c.requires.cuttable.edges cds.start c.first_base-first.ensures in
    let l = inside_at σ x c.last_base-last.result c.holds_base-2.result (sym c.holds_base-2.ensures) c.requires.cuttable.edges (cds.end - 1) c.last_base-last.ensures in
    let cut : same_cuts (cuts_in σ c.args.segments) (cuts cds 0 (oriented_in σ x)) ≡ false =
    elim c.then-differ.branch [
      | then-differ-via-then-differ w ↦ c.requires.known w.if-differ.true
      | then-differ-via-else-differ+then-not-are_cuts w ↦ sym w.are_cuts.ensures ∙ w.if-not-are_cuts.true
    ] in
    refused_by tt Refusal.Segments _ (sym (lacks_cuts _ cds (oriented_in σ x) (cuts_in σ c.args.segments) refl (f ∙ c.if-not-holds_base.false) (l ∙ c.if-not-holds_base-2.false) cut))

pub returns : goal.returns
returns c =
    let x = c.args.exons.intervals in
    let σ = c.args.exons.strand in
    let cds = orient σ c.args.cds.cds_genomic_start c.args.cds.cds_genomic_end in
    let f = inside_at σ x c.first_base-first.result c.holds_base.result (sym c.holds_base.ensures) c.requires.cuttable.edges cds.start c.first_base-first.ensures in
    let l = inside_at σ x c.last_base-last.result c.holds_base-2.result (sym c.holds_base-2.ensures) c.requires.cuttable.edges (cds.end - 1) c.last_base-last.ensures in
    answered tt _ (sym (lacks_none _ cds (oriented_in σ x) (cuts_in σ c.args.segments) refl (f ∙ c.if-not-holds_base.false) (l ∙ c.if-not-holds_base-2.false) (sym c.are_cuts.ensures ∙ c.if-not-are_cuts.false)))
