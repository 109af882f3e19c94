-- What a longer and a shorter transcript share in oriented coordinates.
use Prim.Native.Nat.{ℕ, ◌-◌, ◌≤◌}
use mathlib.Core.Path.{◌≡◌, refl, sym, ◌∙◌, ap}
use mathlib.Core.Bool.{Bool, true, not}
use mathlib.Core.List.{List, [], ◌∷◌, map}
use native.Mathlib.Omega.{arith}
use Rattle.common.specs.Lists.{any}
use Rattle.common.proofs.Lists.{any_map, any_members}
use Rattle.transcript.specs.declared.Strand.{Strand}
use Rattle.transcript.specs.declared.CdsSegment.{CdsSegment}
use Rattle.transcript.specs.Transcript.{Transcript, pad_of, is_empty}
use Rattle.transcript.specs.Orient.{Interval, orient_base, orient_segment, Oriented, oriented}
use Rattle.transcript.specs.Bases.{first_start, last_end}
use Rattle.transcript.specs.Admission.{Admitted}
use Rattle.transcript.proofs.Ascends.{inside_first, inside_from}
use Rattle.transcript.proofs.Admitted.{facts}
use Rattle.transcript.proofs.Between.{some_exon}
use Rattle.transcript.proofs.Cutting.{parts, cuts_parts}
use Rattle.demands.specs.Longer.{Longer}
use Rattle.demands.proofs.Around.{Around, around_parts}

pub record Alike (S L : Oriented) : Type 0 where
  pub exons : Around S.exons L.exons
  pub coding : L.coding ≡ S.coding
  pub cds : L.cds ≡ S.cds
  pub segments : L.segments ≡ S.segments
  pub pad : L.pad ≡ S.pad
  pub start_complete : L.start_complete ≡ S.start_complete
  pub selenocysteine : (f : ℕ → Bool) → any f L.selenocysteine ≡ any f S.selenocysteine
  -- the CDS lies inside the shorter
  pub cds_starts : S.coding ≡ true → (first_start S.exons ≤ S.cds.start) × (S.cds.start ≤ last_end S.exons)
  pub cds_ends : S.coding ≡ true → (first_start S.exons ≤ S.cds.end) × (S.cds.end ≤ last_end S.exons)

abbrev phase_of : CdsSegment → ℕ
phase_of g = g.phase

same_coding : (gs hs : List CdsSegment) → map phase_of gs ≡ map phase_of hs → not (is_empty gs) ≡ not (is_empty hs)
same_coding [] [] e = refl
same_coding [] (h ∷ hs) e = cc
same_coding (g ∷ gs) [] e = cc
same_coding (g ∷ gs) (h ∷ hs) e = refl

same_pad : (gs hs : List CdsSegment) → map phase_of gs ≡ map phase_of hs → pad_of gs ≡ pad_of hs
same_pad [] [] e = refl
same_pad [] (h ∷ hs) e = cc
same_pad (g ∷ gs) [] e = cc
same_pad (g ∷ gs) (h ∷ hs) e = let p : g.phase ≡ h.phase = cc in rw p

same_segments : (σ τ : Strand) (gs hs : List CdsSegment) → map phase_of gs ≡ map phase_of hs
    → (not (is_empty hs) ≡ true → map (orient_segment σ) gs ≡ map (orient_segment τ) hs) → map (orient_segment σ) gs ≡ map (orient_segment τ) hs
same_segments σ τ [] [] e f = refl
same_segments σ τ (g ∷ gs) [] e f = absurd (let z : ◌≡◌ {A = ℕ} 0 1 = cc in omega arith)
same_segments σ τ gs (h ∷ hs) e f = f refl

module _ (S L : Transcript) (x : Longer S L) (hS : Admitted S) (hL : Admitted L) where
  abbrev pub around : Around (oriented S).exons (oriented L).exons
  around = record {
    before = x.before;
    after = x.after;
    begin = x.begin;
    finish = x.finish;
    exons = x.exons;
    begins = x.begins;
    ends = x.ends;
    spaced5 = x.spaced5;
    spaced3 = x.spaced3;
    some = some_exon S (facts S hS);
    short = (facts S hS).order;
    long = (facts L hL).order;
  }

  pub cds_starts_lem : (oriented S).coding ≡ true → (first_start (oriented S).exons ≤ (oriented S).cds.start) × ((oriented S).cds.start ≤ last_end (oriented S).exons)
  cds_starts_lem c =
      let f = facts S hS in
      let i = inside_first (oriented S).exons 0 (oriented S).cds.start f.order (f.first_in c) in
      let b = inside_from 0 (oriented S).exons (oriented S).cds.start f.order (f.first_in c) in
      (i, omega arith)

  pub cds_ends_lem : (oriented S).coding ≡ true → (first_start (oriented S).exons ≤ (oriented S).cds.end) × ((oriented S).cds.end ≤ last_end (oriented S).exons)
  cds_ends_lem c =
      let f = facts S hS in
      let i = inside_first (oriented S).exons 0 ((oriented S).cds.end - 1) f.order (f.last_in c) in
      let b = inside_from 0 (oriented S).exons ((oriented S).cds.end - 1) f.order (f.last_in c) in
      (omega arith, omega arith)

  pub same_cds : (oriented L).cds ≡ (oriented S).cds
  unfolding oriented
  same_cds = rw (x.strand, x.cds)

  pub coding_too : (oriented L).coding ≡ (oriented S).coding
  unfolding oriented
  coding_too = same_coding L.segments S.segments x.phases

  same_parts : (oriented S).coding ≡ true → (oriented L).segments ≡ (oriented S).segments
  unfolding oriented
  same_parts c =
      let l = (facts L hL).segments ∙ cuts_parts (oriented L).cds 0 (oriented L).exons in
      let s = (facts S hS).segments ∙ cuts_parts (oriented S).cds 0 (oriented S).exons in
      let a = around_parts (oriented S).exons (oriented L).exons around (oriented S).cds (cds_starts_lem c).0 (cds_ends_lem c).1 in
      l ∙ ap (λ (d : Interval). parts d (oriented L).exons) same_cds ∙ a ∙ sym s

  pub same_selenocysteine : (f : ℕ → Bool) → any f (oriented L).selenocysteine ≡ any f (oriented S).selenocysteine
  unfolding oriented
  same_selenocysteine f =
      any_map f (orient_base L.model.strand) L.selenocysteine
      ∙ ap (λ (σ : Strand). any (λ b. f (orient_base σ b)) L.selenocysteine) x.strand
      ∙ any_members (λ b. f (orient_base S.model.strand b)) L.selenocysteine S.selenocysteine x.selenocysteine
      ∙ sym (any_map f (orient_base S.model.strand) S.selenocysteine)

  pub same_all_segments : (oriented L).segments ≡ (oriented S).segments
  unfolding oriented
  same_all_segments = same_segments L.model.strand S.model.strand L.segments S.segments x.phases same_parts

  pub pad_too : (oriented L).pad ≡ (oriented S).pad
  unfolding oriented
  pad_too = same_pad L.segments S.segments x.phases

  pub start_too : (oriented L).start_complete ≡ (oriented S).start_complete
  unfolding oriented
  start_too = x.start_mark

  abbrev pub alike : Alike (oriented S) (oriented L)
  alike = record {
    exons = around;
    coding = coding_too;
    cds = same_cds;
    segments = same_all_segments;
    pad = pad_too;
    start_complete = start_too;
    selenocysteine = same_selenocysteine;
    cds_starts = cds_starts_lem;
    cds_ends = cds_ends_lem;
  }
