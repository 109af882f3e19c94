-- 21, or the words of the answer that the codon gives, with its mark and its spill.
use Rattle.std.specs.Prelude.{Ok, Err}
use Rattle.std.proofs.Common.{Option}
use Prim.Native.Nat.{ℕ}
use mathlib.Core.Path.{◌≡◌, refl, sym, ◌∙◌, ap}
use mathlib.Core.List.{List}
use native.Mathlib.Omega.{arith}
use lib.IntN.{ℤ}
use Rattle.common.specs.declared.refusal.Refusal.{Refusal}
use Rattle.transcript.specs.Transcript.{Transcript, transcript_of}
use Rattle.transcript.specs.Orient.{oriented}
use Rattle.footprint.specs.declared.SpliceSpill.{SpliceSpill}
use Rattle.locate.specs.declared.IndexScalars.{IndexScalars}
use Rattle.locate.specs.declared.VariantLocation.{VariantLocation}
use Rattle.locate.specs.code.Ordered.{in_order}
use Rattle.terms.specs.Terms.{spill_terms}
use Rattle.consequence.specs.Called.{Called}
use Rattle.consequence.specs.declared.region.Region.{Region}
use Rattle.consequence.specs.Region.{cds_exon}
use Rattle.consequence.specs.Window.{window_of, coding_byte}
use Rattle.consequence.specs.Answer.{exon_result}
use Rattle.consequence.specs.Call.{call_table, call_codon}
use Rattle.consequence.specs.Numbers.{called_words}
use Rattle.consequence.specs.code.AtPlace.{columns_of, columns_called, place_called, spilled, spill_at}
use Rattle.consequence.specs.declared.columns.CodonColumns.{CodonColumns}
use Rattle.consequence.proofs.Preparing.{exon_count, exons_at, segments_at, called, coding_cdna, coding_requires}
use Rattle.codon.specs.declared.Codon.{Codon}
use Rattle.words.proofs.Putting.{whole}
use Rattle.words.proofs.WordLengths.{called_length}
use Rattle.answers.proofs.Indexed.{prepared, on_indexed}
use Rattle.answers.proofs.cds.put_cds_snv.Goals as goal
use Rattle.answers.proofs.cds.put_cds_snv.Goals.{After-segments, After-read_cds_codon-read, Start}

abbrev transcript : Start → Transcript
transcript b = transcript_of b.args.coded.indexed.admitted.transcript.now

abbrev place : Start → VariantLocation
place b = cds_exon b.args.place

abbrev codon : Start → ℕ → Option Codon
codon b = call_codon (transcript b) (window_of b.args.window.now)

abbrev alt : Start → ℕ
alt b = coding_byte b.args.coded.indexed.admitted.transcript.now.model.strand b.args.alt_base

-- the answer from what the codon gives, and at the place
abbrev given_by : Start → Option CodonColumns → Called
given_by b r = columns_called (oriented (transcript b)) b.args.p (place b) b.args.place r

abbrev there : Start → Called
there b = place_called (call_table (transcript b)) (oriented (transcript b)) b.args.p (alt b) (codon b) (place b)

-- the numbers of an answer with its spill
abbrev left : SpliceSpill → Called → List ℤ
left s x = called_words (spilled s x)

-- the transcript's segments are those that are read
segments : (c : After-segments) → (oriented (transcript (goal.at.After-segments c).Start)).segments ≡ in_order c.segments.result
segments c =
    let x = c.segments.ensures in
    rw (x.0, x.1) (on_indexed c.args.coded.indexed segments_at)

is_there : (c : After-read_cds_codon-read) → let b = (goal.at.After-read_cds_codon-read c).Start in given_by b c.read_cds_codon-read.result ≡ there b
unfolding oriented
is_there c =
    let b = (goal.at.After-read_cds_codon-read c).Start in
    let h = prepared b.args.coded.indexed in
    rw c.segments.ensures.0 at (c.read_cds_codon-read.ensures (call_table (transcript b)) (oriented (transcript b)) b.args.coded.read h.scalars_are refl
    (segments (goal.at.After-read_cds_codon-read c).After-segments) h.codons_are
    b.args.p (place b) b.args.place refl)
    ∙ on_indexed b.args.coded.indexed called b.args.ranges b.args.p (place b) b.requires.located
    (Region.Coding b.args.place) refl (call_table (transcript b)) (alt b) (codon b)

pub read_cds_codon-read-requires : goal.read_cds_codon-read-requires
read_cds_codon-read-requires c =
    let h = on_indexed c.args.coded.indexed coding_requires c.args.ranges c.args.p (cds_exon c.args.place) c.requires.located c.args.place refl in
    let x = c.segments.ensures in
    record { segments = rw (x.0, x.1) h.0; segment_count_value = rw x.1 h.1.0; selenocysteine_count_bound = h.1.1.0 }

pub returns-in_default : goal.returns-in_default
returns-in_default c =
    let b = (goal.at.returns-in_default c).Start in
    rw c.from.ensures at c.put_refusal.ensures
    ∙ whole c.args.out.now (called_words (Err Refusal.CodonOutsideWindow)) (omega arith)
    ∙ ap (left (spill_at (oriented (transcript b)) c.args.p)) (ap (given_by b) (sym c.in_default.is) ∙ is_there (goal.at.returns-in_default c).After-read_cds_codon-read)

pub cdna_position-requires : goal.cdna_position-requires
cdna_position-requires c =
    let h = on_indexed c.args.coded.indexed coding_requires c.args.ranges c.args.p (cds_exon c.args.place) c.requires.located c.args.place refl in
    (h.1.1.1.2, h.1.1.1.3)

pub returns : goal.returns
returns c =
    let b = (goal.at.returns c).Start in
    let t = oriented (transcript b) in
    let s = c.spill_at-spill in
    let h = prepared c.args.coded.indexed in
    let e : s.result ≡ spill_at t c.args.p = s.ensures t (let x = c.exons.ensures in rw (x.0, x.1) (on_indexed c.args.coded.indexed exons_at)) (ap (λ (x : IndexScalars). x.has_frameshift_intron) h.scalars_are) in
    let cdna = on_indexed c.args.coded.indexed coding_cdna c.args.ranges c.args.p (cds_exon c.args.place) c.requires.located c.args.place refl in
    let terms = c.spill_terms.ensures ∙ ap (spill_terms s.result.donor s.result.acceptor) c.with_mark-marked.ensures in
    let f = ap (given_by b) (sym c.in-Some.is) ∙ is_there (goal.at.returns c).After-read_cds_codon-read in
    let answer : ℕ → Called = λ n. Ok (exon_result t c.args.p (place b) c.args.place.exon (columns_of c.args.place.base c.in-Some.columns) n) in
    let n = called_length (answer c.spill_terms.result.0) in
    c.put_coding.ensures t c.args.p (on_indexed c.args.coded.indexed exon_count) (cdna ∙ sym c.cdna_position.ensures)
    ∙ whole c.args.out.now (called_words (answer c.spill_terms.result.0)) (omega arith)
    ∙ ap (λ (n : ℕ). called_words (answer n)) terms
    ∙ (λ k. left (e k) (f k))
