use Rattle.locate.proofs.LentIndex.{coded, codons}
use Rattle.locate.proofs.LentTranscript.{exons_are}
use Rattle.footprint.specs.ShortIntron.{is_frameshift_gap}
use Rattle.transcript.specs.Bases.{gaps}
use Rattle.transcript.specs.Orient.{Interval}
use Rattle.common.specs.Lists.{any}
use mathlib.Core.List.{List}
use mathlib.Core.Path.{◌∙◌, ap}
use Rattle.transcript.proofs.OnParts.{on}
use Rattle.consequence.proofs.summed.annotate_summed.Goals as goal
use Rattle.consequence.proofs.summed.annotate_summed.Goals.{Start}

pub scalars_of-scalars-requires : goal.scalars_of-scalars-requires
scalars_of-scalars-requires c =
    record { sums = (c.requires.summed.exons_are, c.requires.summed.segments_are); short = c.requires.summed.short_is ∙ ap (λ (xs : List Interval). any is_frameshift_gap (gaps xs)) (on c.args.coded.transcript.now exons_are c.requires.summed.admitted) }

pub selenocysteine_codons-codons-requires : goal.selenocysteine_codons-codons-requires
selenocysteine_codons-codons-requires c = let x = c.segments.ensures in rw (x.0, x.1) (on c.args.coded.transcript.now coded c.requires.summed.admitted c.args.cumulative_cds.now c.requires.summed.segments_are)

pub annotate_admitted-requires : goal.annotate_admitted-requires
annotate_admitted-requires c =
    record {
      prepared = record {
        admitted = c.requires.summed.admitted;
        scalars_are = c.scalars_of-scalars.ensures;
        exons_are = c.requires.summed.exons_are;
        segments_are = c.requires.summed.segments_are;
        codons_are = (let x = c.segments.ensures in rw (x.0, x.1) at c.selenocysteine_codons-codons.ensures) ∙ on c.args.coded.transcript.now codons c.requires.summed.admitted c.args.cumulative_cds.now c.requires.summed.segments_are;
      };
    }
