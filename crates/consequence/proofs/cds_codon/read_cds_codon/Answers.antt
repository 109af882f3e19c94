-- The codon outside the window, or its columns.
use Rattle.std.specs.Prelude.{Ok}
use Rattle.std.proofs.Common.{Option}
use Prim.Native.Nat.{ℕ}
use mathlib.Core.List.{List}
use mathlib.Core.Path.{◌≡◌, sym, ◌∙◌, ap}
use Rattle.transcript.specs.Orient.{Oriented}
use Rattle.locate.specs.declared.IndexScalars.{IndexScalars}
use Rattle.locate.specs.declared.VariantLocation.{VariantLocation}
use Rattle.locate.specs.Place.{total_cds_length}
use Rattle.locate.specs.Index.{index_scalars}
use Rattle.consequence.specs.Called.{Called}
use Rattle.consequence.specs.declared.CodingPlace.{CodingPlace}
use Rattle.consequence.specs.declared.region.Region.{Region}
use Rattle.codon.specs.Table.{build_alt_codon}
use Rattle.consequence.specs.Window.{coding_byte}
use Rattle.consequence.specs.Reading.{incomplete_at}
use Rattle.consequence.specs.code.AtPlace.{columns_of, coding_called}
use Rattle.consequence.specs.Answer.{Columns, codon_result, read_codon, codon_columns}
use Rattle.consequence.proofs.cds_codon.read_cds_codon.Goals as goal
use Rattle.consequence.proofs.cds_codon.read_cds_codon.Goals.{Start}
use Rattle.codon.specs.declared.Codon.{Codon}

-- the answer from the codon
abbrev called : Start → List ℕ → Oriented → ℕ → VariantLocation → CodingPlace → Option Codon → Called
called b table t p place there c = coding_called table t p (coding_byte b.args.segments.now.strand b.args.alt_base) place there c

pad_of : (b : Start) (t : Oriented) → b.args.scalars ≡ index_scalars t → t.pad ≡ b.args.scalars.cds_start_pad
pad_of b t h = sym (ap (λ (x : IndexScalars). x.cds_start_pad) h)

total_of : (b : Start) (t : Oriented) → b.args.scalars ≡ index_scalars t → total_cds_length t ≡ b.args.scalars.total_cds_length
total_of b t h = sym (ap (λ (x : IndexScalars). x.total_cds_length) h)

pub returns : goal.returns
unfolding codon_columns
returns c =
    let bases = c.in_ok-c.c in
    λ table t e hs hc hg hu p place there same.
    let start = c.is_start_codon.ensures t (pad_of (goal.at.returns c).Start t hs) hc in
    let padded = c.is_padded_codon.ensures t (pad_of (goal.at.returns c).Start t hs) in
    let unfinished = c.is_incomplete_terminal_codon.ensures ∙ ap (λ (n : ℕ). incomplete_at n c.args.coding.offset.0) (sym (total_of (goal.at.returns c).Start t hs)) in
    let held = c.holds_selenocysteine.ensures t (ap (λ (x : IndexScalars). x.selenocysteine_count) hs) hu in
    let columns = c.read_codon.ensures table t e start padded unfinished held
    ∙ ap (λ (n : ℕ). read_codon table t c.args.coding.offset.0 c.args.coding.number bases (build_alt_codon bases c.args.coding.position n) c.args.coding.position) c.coding_byte.ensures in
    let shown : columns_of there.base c.read_codon.result
    ≡ read_codon table t there.base.offset.0 there.base.number bases (build_alt_codon bases there.base.position (coding_byte c.args.segments.now.strand c.args.alt_base)) there.base.position
    = rw same columns in
    ap (λ (x : Columns). Ok (codon_result t p place (Region.Coding there) x)) shown
    ∙ ap (called (goal.at.returns c).Start table t p place there) (sym c.in_ok-c.was ∙ c.fetch_ref_codon.ensures t (pad_of (goal.at.returns c).Start t hs) hg (total_of (goal.at.returns c).Start t hs))
