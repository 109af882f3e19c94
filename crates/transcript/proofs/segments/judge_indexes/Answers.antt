use Rattle.std.proofs.Common.{sym, arith}
use Rattle.common.specs.declared.refusal.Refusal.{Refusal}
use Rattle.common.proofs.Outcome.{answered, refused_by}
use Rattle.transcript.proofs.Steps.{seen_start, index_missing, index_again, index_go, index_end}
use Rattle.transcript.proofs.segments.judge_indexes.Goals as goal

pub loop-index-init : goal.loop-index-init
loop-index-init c = seen_start c.args.exons c.args.indexes.now

pub returns-then-exons-k : goal.returns-then-exons-k
returns-then-exons-k c =
    let l = c.loop-index in
    refused_by tt Refusal.MissingExon _ (sym (index_missing c.args.exons c.args.indexes.now l.seen l.index-index l.invariant c.loop-index-test.true c.if-exons-k.true))

pub returns-then-seen-k : goal.returns-then-seen-k
returns-then-seen-k c =
    let l = c.loop-index in
    refused_by tt Refusal.RepeatedExon _ (sym (index_again c.args.exons c.args.indexes.now l.seen l.index-index l.invariant c.loop-index-test.true c.if-exons-k.false c.requires c.if-seen-k.true))

pub loop-index-preserved : goal.loop-index-preserved
loop-index-preserved c =
    let l = c.loop-index in
    index_go c.args.exons c.args.indexes.now l.seen l.index-index l.invariant c.loop-index-test.true c.if-exons-k.false c.requires c.if-seen-k.false

pub returns : goal.returns
returns c =
    let l = c.loop-index in
    answered tt _ (sym (index_end c.args.exons c.args.indexes.now l.seen l.index-index l.invariant (omega arith)))
