use Rattle.std.specs.Prelude.{Ok}
use Rattle.std.proofs.Common.{Option}
use Prim.Native.Nat.{ℕ, ◌+◌, ◌-◌}
use mathlib.Core.Path.{◌≡◌, refl, sym, ◌∙◌, ap}
use lib.ListN.{length}
use lib.Dec.{ltb}
use Rattle.transcript.specs.Transcript.{Transcript, lent}
use Rattle.transcript.specs.Orient.{oriented}
use Rattle.locate.specs.code.Ordered.{in_order}
use Rattle.consequence.specs.Region.{region_of, with_mark}
use Rattle.consequence.specs.code.AtPlace.{region_called, place_called}
use Rattle.consequence.specs.declared.region.Region.{Region}
use Rattle.consequence.specs.Window.{window_of, coding_byte}
use Rattle.consequence.specs.Answer.{nth_of, no_codon, flank_result, intron_result, exon_result}
use Rattle.consequence.specs.Call.{call_table, call_codon}
use Rattle.consequence.proofs.OnPrepared.{on_prepared}
use Rattle.consequence.proofs.Regions.{AtRegion}
use Rattle.consequence.proofs.Preparing.{exon_count, index_fits, segments_at, exon_requires, exon_cdna, at_region, called, coding_cdna, coding_requires}
use Rattle.consequence.proofs.place.annotate_place.Goals as goal
use Rattle.consequence.proofs.place.annotate_place.Goals.{After-segments, Start}
use Rattle.codon.specs.declared.Codon.{Codon}

-- a law about the transcript and its index, at them
abbrev transcript : Start → Transcript
transcript b = lent b.args.coded.transcript.now.model b.args.coded.transcript.now.exons.starts.now b.args.coded.transcript.now.exons.ends.now b.args.coded.transcript.now.segments.phases.now b.args.coded.transcript.now.segments.exon_indexes.now b.args.coded.transcript.now.segments.bases.starts.now b.args.coded.transcript.now.segments.bases.ends.now b.args.coded.transcript.now.selenocysteine.now

abbrev codon : Start → ℕ → Option Codon
codon b = call_codon (transcript b) (window_of b.args.window.now)

-- what the region says of the base, and the answer there
at : (b : Start) (g : Region) → g ≡ region_of (ltb 0 (length b.args.coded.transcript.now.segments.bases.starts.now)) b.args.place → AtRegion (oriented (transcript b)).exons b.args.p g
at b = on_prepared b.args.coded.transcript.now b.args.scalars b.args.cumulative_exons.now b.args.cumulative_cds.now b.args.selenocysteine_codons.now b.requires.prepared at_region b.args.ranges b.args.p b.args.place b.requires.located

answer : (b : Start) (g : Region) → g ≡ region_of (ltb 0 (length b.args.coded.transcript.now.segments.bases.starts.now)) b.args.place
    → region_called (call_table (transcript b)) (oriented (transcript b)) b.args.p (coding_byte b.args.coded.transcript.now.model.strand b.args.alt_base) (codon b) b.args.place g
    ≡ place_called (call_table (transcript b)) (oriented (transcript b)) b.args.p (coding_byte b.args.coded.transcript.now.model.strand b.args.alt_base) (codon b) b.args.place
answer b g e = on_prepared b.args.coded.transcript.now b.args.scalars b.args.cumulative_exons.now b.args.cumulative_cds.now b.args.selenocysteine_codons.now b.requires.prepared called b.args.ranges b.args.p b.args.place b.requires.located g e (call_table (transcript b)) (coding_byte b.args.coded.transcript.now.model.strand b.args.alt_base) (codon b)

pub overflow_sub-exons : goal.overflow_sub-exons
overflow_sub-exons c =
    (on_prepared c.args.coded.transcript.now c.args.scalars c.args.cumulative_exons.now c.args.cumulative_cds.now c.args.selenocysteine_codons.now c.requires.prepared index_fits _ (at (goal.at.overflow_sub-exons c).Start _ (sym c.in-Intron.is ∙ c.region_of-region.ensures))).1

pub nth_of-requires : goal.nth_of-requires
nth_of-requires c =
    (on_prepared c.args.coded.transcript.now c.args.scalars c.args.cumulative_exons.now c.args.cumulative_cds.now c.args.selenocysteine_codons.now c.requires.prepared index_fits _ (at (goal.at.nth_of-requires c).Start _ (sym c.in-Intron.is ∙ c.region_of-region.ensures))).0

pub compute_cdna_position_exonic-cdna-requires : goal.compute_cdna_position_exonic-cdna-requires
compute_cdna_position_exonic-cdna-requires c =
    let h = on_prepared c.args.coded.transcript.now c.args.scalars c.args.cumulative_exons.now c.args.cumulative_cds.now c.args.selenocysteine_codons.now c.requires.prepared exon_requires c.args.p _ (at (goal.at.compute_cdna_position_exonic-cdna-requires c).Start _ (sym c.in-Exon.is ∙ c.region_of-region.ensures)) in
    let x = c.exons.ensures in
    record { sums = rw (x.0, x.1) h.0; held = rw (x.0, x.1) h.1 }

pub nth_of-requires-in-Exon : goal.nth_of-requires-in-Exon
nth_of-requires-in-Exon c =
    (on_prepared c.args.coded.transcript.now c.args.scalars c.args.cumulative_exons.now c.args.cumulative_cds.now c.args.selenocysteine_codons.now c.requires.prepared index_fits _ (at (goal.at.nth_of-requires-in-Exon c).Start _ (sym c.in-Exon.is ∙ c.region_of-region.ensures)).0).0

pub nth_of-requires-in-Coding : goal.nth_of-requires-in-Coding
nth_of-requires-in-Coding c =
    let h = on_prepared c.args.coded.transcript.now c.args.scalars c.args.cumulative_exons.now c.args.cumulative_cds.now c.args.selenocysteine_codons.now c.requires.prepared coding_requires c.args.ranges c.args.p c.args.place c.requires.located _ (sym c.in-Coding.is ∙ c.region_of-region.ensures) in
    h.1.1.1.0

pub annotate_cds_snv-requires : goal.annotate_cds_snv-requires
annotate_cds_snv-requires c =
    let h = on_prepared c.args.coded.transcript.now c.args.scalars c.args.cumulative_exons.now c.args.cumulative_cds.now c.args.selenocysteine_codons.now c.requires.prepared coding_requires c.args.ranges c.args.p c.args.place c.requires.located _ (sym c.in-Coding.is ∙ c.region_of-region.ensures) in
    let x = c.segments.ensures in
    let o = h.1.1.1 in
    record { segments = rw (x.0, x.1) h.0; segment_count_value = rw x.1 h.1.0; selenocysteine_count_bound = h.1.1.0; offset_bound = (o.1, o.2, o.3) }

pub returns-in-Distal : goal.returns-in-Distal
returns-in-Distal c = answer (goal.at.returns-in-Distal c).Start Region.Distal (sym c.in-Distal.is ∙ c.region_of-region.ensures)

pub returns-in-Flank : goal.returns-in-Flank
returns-in-Flank c =
    ap Ok (c.flank_result.ensures ∙ ap (λ (n : ℕ). flank_result c.args.place n) c.of.ensures)
    ∙ answer (goal.at.returns-in-Flank c).Start _ (sym c.in-Flank.is ∙ c.region_of-region.ensures)

pub returns-in-Intron : goal.returns-in-Intron
returns-in-Intron c =
    ap Ok
    (c.intron_result.ensures (oriented (transcript (goal.at.returns-in-Intron c).Start)) c.in-Intron.index (c.nth_of.ensures ∙ ap (λ (n : ℕ). nth_of (c.in-Intron.index + 1) (n - 1)) (sym (on_prepared c.args.coded.transcript.now c.args.scalars c.args.cumulative_exons.now c.args.cumulative_cds.now c.args.selenocysteine_codons.now c.requires.prepared exon_count)))
    ∙ ap (λ (n : ℕ). intron_result (oriented (transcript (goal.at.returns-in-Intron c).Start)) c.args.place c.in-Intron.index n)
    (c.with_mark-terms.ensures ∙ ap (with_mark c.in-Intron.mark) c.of-in-Intron.ensures))
    ∙ answer (goal.at.returns-in-Intron c).Start _ (sym c.in-Intron.is ∙ c.region_of-region.ensures)

pub returns-in-Exon : goal.returns-in-Exon
returns-in-Exon c =
    let n = c.compute_cdna_position_exonic-cdna in
    ap Ok
    (c.exon_result.ensures (oriented (transcript (goal.at.returns-in-Exon c).Start)) c.args.p c.in-Exon.index (c.nth_of-in-Exon.ensures ∙ ap (nth_of (c.in-Exon.index + 1)) (sym (on_prepared c.args.coded.transcript.now c.args.scalars c.args.cumulative_exons.now c.args.cumulative_cds.now c.args.selenocysteine_codons.now c.requires.prepared exon_count))) (on_prepared c.args.coded.transcript.now c.args.scalars c.args.cumulative_exons.now c.args.cumulative_cds.now c.args.selenocysteine_codons.now c.requires.prepared exon_cdna c.args.p n.result.0 (let x = c.exons.ensures in rw (x.0, x.1) at n.ensures))
    ∙ ap (λ (n : ℕ). exon_result (oriented (transcript (goal.at.returns-in-Exon c).Start)) c.args.p c.args.place c.in-Exon.index no_codon n)
    (c.with_mark-terms-in-Exon.ensures ∙ ap (with_mark c.in-Exon.mark) c.of-in-Exon.ensures))
    ∙ answer (goal.at.returns-in-Exon c).Start _ (sym c.in-Exon.is ∙ c.region_of-region.ensures)

-- the transcript's segments are those that are read
segments : (c : After-segments) → (oriented (transcript (goal.at.After-segments c).Start)).segments ≡ in_order c.segments.result
segments c =
    let x = c.segments.ensures in
    rw (x.0, x.1) (on_prepared c.args.coded.transcript.now c.args.scalars c.args.cumulative_exons.now c.args.cumulative_cds.now c.args.selenocysteine_codons.now c.requires.prepared segments_at)

pub returns-in-Coding : goal.returns-in-Coding
unfolding oriented
returns-in-Coding c =
    let e = sym c.in-Coding.is ∙ c.region_of-region.ensures in
    rw c.segments.ensures.0 at (c.annotate_cds_snv.ensures (call_table (transcript (goal.at.returns-in-Coding c).Start)) (oriented (transcript (goal.at.returns-in-Coding c).Start)) c.args.p c.args.coded.read (c.nth_of-in-Coding.ensures ∙ ap (nth_of (c.in-Coding.base.exon + 1)) (sym (on_prepared c.args.coded.transcript.now c.args.scalars c.args.cumulative_exons.now c.args.cumulative_cds.now c.args.selenocysteine_codons.now c.requires.prepared exon_count))) c.requires.prepared.scalars_are refl (segments (goal.at.returns-in-Coding c).After-segments) c.requires.prepared.codons_are
    (on_prepared c.args.coded.transcript.now c.args.scalars c.args.cumulative_exons.now c.args.cumulative_cds.now c.args.selenocysteine_codons.now c.requires.prepared coding_cdna c.args.ranges c.args.p c.args.place c.requires.located _ e))
    ∙ answer (goal.at.returns-in-Coding c).Start _ e
