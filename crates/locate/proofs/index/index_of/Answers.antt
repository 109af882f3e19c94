use mathlib.Core.Path.{◌∙◌}
use Rattle.transcript.proofs.OnParts.{on}
use Rattle.locate.proofs.LentIndex.{exons_summed, cds_summed, coded, codons}
use Rattle.locate.proofs.index.index_of.Goals as goal
use Rattle.locate.proofs.index.index_of.Goals.{Start}

pub scalars_of-index-requires : goal.scalars_of-index-requires
scalars_of-index-requires c =
    let s = c.sum_up in
    let x = c.exons.ensures in
    record { sums = (on c.args.admitted.transcript.now exons_summed c.args.admitted.admitted s.new.cumulative_exons s.ensures.sums.0, on c.args.admitted.transcript.now cds_summed c.args.admitted.admitted s.new.cumulative_cds s.ensures.sums.1); short = rw (x.0, x.1) at c.has_frameshift_intron.ensures }

pub selenocysteine_codons-codons-requires : goal.selenocysteine_codons-codons-requires
selenocysteine_codons-codons-requires c =
    let s = c.sum_up in
    let x = c.segments.ensures in
    rw (x.0, x.1) (on c.args.admitted.transcript.now coded c.args.admitted.admitted s.new.cumulative_cds (on c.args.admitted.transcript.now cds_summed c.args.admitted.admitted s.new.cumulative_cds s.ensures.sums.1))

pub returns : goal.returns
returns c =
    let s = c.sum_up in
    let x = c.scalars_of-index.ensures in
    let g = c.segments.ensures in
    let n = (rw (g.0, g.1) at c.selenocysteine_codons-codons.ensures) ∙ on c.args.admitted.transcript.now codons c.args.admitted.admitted s.new.cumulative_cds (on c.args.admitted.transcript.now cds_summed c.args.admitted.admitted s.new.cumulative_cds s.ensures.sums.1) in
    λ k. record { scalars = x k; cumulative_exons = s.ensures.sums.0 k; cumulative_cds = s.ensures.sums.1 k; selenocysteine_codons = n k }
