-- The answer from what the codon gives.
use Rattle.std.specs.Prelude.{Ok}
use Rattle.std.proofs.Common.{Option}
use Prim.Native.Nat.{ℕ}
use mathlib.Core.Path.{refl, sym, ◌∙◌, ap}
use Rattle.transcript.specs.Orient.{Oriented}
use Rattle.consequence.specs.Called.{Called}
use Rattle.consequence.specs.code.AtPlace.{columns_of, columns_called}
use Rattle.consequence.specs.Answer.{exon_result}
use Rattle.consequence.proofs.coding.annotate_cds_snv.Goals as goal
use Rattle.consequence.proofs.coding.annotate_cds_snv.Goals.{Start}
use Rattle.consequence.specs.declared.columns.CodonColumns.{CodonColumns}

-- the answer from what the codon gives
abbrev called : Start → Oriented → ℕ → Option CodonColumns → Called
called b t p r = columns_called t p b.args.place b.args.coding r

pub read_cds_codon-read-requires : goal.read_cds_codon-read-requires
read_cds_codon-read-requires c =
    record { segments = c.requires.segments; segment_count_value = c.requires.segment_count_value; selenocysteine_count_bound = c.requires.selenocysteine_count_bound }

pub returns-in_default : goal.returns-in_default
returns-in_default c =
    λ table t p e he hs hc hg hu hd.
    ap (called (goal.at.returns-in_default c).Start t p) (sym c.in_default.is)
    ∙ c.read_cds_codon-read.ensures table t e hs hc hg hu p c.args.place c.args.coding refl

pub cdna_position-cdna-requires : goal.cdna_position-cdna-requires
cdna_position-cdna-requires c = let h = c.requires.offset_bound in (h.1, h.2)

pub coding_result-requires : goal.coding_result-requires
coding_result-requires c = c.requires.offset_bound.0

pub returns : goal.returns
returns c =
    λ table t p e he hs hc hg hu hd.
    ap Ok
    (c.coding_result.ensures t p c.args.coding.exon he (hd ∙ sym c.cdna_position-cdna.ensures)
    ∙ ap (λ (n : ℕ). exon_result t p c.args.place c.args.coding.exon (columns_of c.args.coding.base c.in-Some.columns) n) c.with_mark-terms.ensures)
    ∙ ap (called (goal.at.returns c).Start t p) (sym c.in-Some.is)
    ∙ c.read_cds_codon-read.ensures table t e hs hc hg hu p c.args.place c.args.coding refl
