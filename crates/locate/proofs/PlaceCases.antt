-- The place of a base of an admitted transcript, a lemma for each case of the search.
-- Assumes nothing.
use Prim.Native.Nat.{ℕ, ◌+◌, ◌-◌, ◌≤◌, ◌<◌}
use mathlib.Core.Path.{◌≡◌, refl, sym, ◌∙◌, ap}
use mathlib.Core.Bool.{Bool}
use mathlib.Core.List.{List}
use native.Mathlib.Omega.{arith}
use lib.ListN.{length}
use lib.Dec.{ltb}
use borrow.Author.Tests.{lt-ltb, le-ltb, le-leb, lt-leb}
use Rattle.transcript.specs.declared.TranscriptModel.{TranscriptModel}
use Rattle.locate.specs.declared.VariantLocation.{VariantLocation}
use Rattle.locate.specs.declared.ExonOrIntron.{ExonOrIntron}
use Rattle.footprint.specs.declared.Ranges.{Ranges}
use Rattle.transcript.specs.Transcript.{lent}
use Rattle.transcript.specs.Orient.{Interval, interval, orient, oriented}
use Rattle.transcript.specs.Bases.{first_start, last_end}
use Rattle.transcript.specs.Admission.{admission}
use Rattle.locate.specs.Find.{Found, in_exon, in_intron, outside, find_exon_or_intron}
use Rattle.locate.specs.Intronic.{classify_intronic}
use Rattle.locate.specs.Place.{is_exonic_splice_region, exonic, place_found, locate}
use Rattle.transcript.specs.code.Lent.{lent_exons}
use Rattle.locate.specs.declared.Feature.{Feature}
use Rattle.locate.specs.code.Features.{feature, bases_of}
use Rattle.locate.specs.code.Search.{exon_or_intron, FoundAt, Holds, upstream_by, downstream_by}
use Rattle.locate.proofs.LentTranscript.{known, exons_are, coding_is}

abbrev kind : ExonOrIntron → ℕ
kind (ExonOrIntron.Exon x) = 0
kind (ExonOrIntron.Intron x) = 1
kind ExonOrIntron.Outside = 2

abbrev held : ExonOrIntron → Feature
held (ExonOrIntron.Exon x) = x
held (ExonOrIntron.Intron x) = x
held ExonOrIntron.Outside = feature 0 (interval 0 0)

pub held_exon : (w : Found) (y : Feature) → exon_or_intron w ≡ ExonOrIntron.Exon y → w ≡ in_exon y.index (bases_of y)
held_exon (in_exon j x) y h = λ k. in_exon (ap held h k).index (bases_of (ap held h k))
held_exon (in_intron j x) y h = absurd (let z = ap kind h in omega arith)
held_exon outside y h = absurd (let z = ap kind h in omega arith)

pub held_intron : (w : Found) (y : Feature) → exon_or_intron w ≡ ExonOrIntron.Intron y → w ≡ in_intron y.index (bases_of y)
held_intron (in_exon j x) y h = absurd (let z = ap kind h in omega arith)
held_intron (in_intron j x) y h = λ k. in_intron (ap held h k).index (bases_of (ap held h k))
held_intron outside y h = absurd (let z = ap kind h in omega arith)

pub held_outside : (w : Found) → exon_or_intron w ≡ ExonOrIntron.Outside → w ≡ outside
held_outside (in_exon j x) h = absurd (let z = ap kind h in omega arith)
held_outside (in_intron j x) h = absurd (let z = ap kind h in omega arith)
held_outside outside h = refl

module _ (m : TranscriptModel) (ss es ps is gs ge bs : List ℕ) (h : admission (lent m ss es ps is gs ge bs) ≡ 0) (p first last : ℕ)
    (ef : first ≡ (orient m.strand m.tx_start m.tx_end).start) (el : last ≡ (orient m.strand m.tx_start m.tx_end).end) where
  begins : first ≡ first_start (oriented (lent m ss es ps is gs ge bs)).exons
  begins = ef ∙ (known m ss es ps is gs ge bs h).begins

  finishes : last ≡ last_end (oriented (lent m ss es ps is gs ge bs)).exons
  finishes = el ∙ (known m ss es ps is gs ge bs h).finishes

  pub from_first : first ≤ p → first_start (lent_exons m.strand ss es) ≤ p
  from_first l = let b = begins ∙ ap first_start (exons_are m ss es ps is gs ge bs h) in omega arith

  pub holds_exon : (y : Feature) → FoundAt (lent_exons m.strand ss es) p (ExonOrIntron.Exon y) → Holds (oriented (lent m ss es ps is gs ge bs)) y p
  holds_exon y k =
      let x = exons_are m ss es ps is gs ge bs h in
      record {
        index = rw x k.0;
        start_is = rw x k.1;
        end_is = rw x k.2;
        from = k.3;
        to = k.4;
      }

  module _ (r : Ranges) where
    pub is_up : p < first → upstream_by r (first - p) ≡ locate r (oriented (lent m ss es ps is gs ge bs)) p
    unfolding locate
    is_up l =
        let b = begins in
        ap (λ (n : ℕ). upstream_by r (n - p)) b ∙ rw (lt-ltb p (first_start (oriented (lent m ss es ps is gs ge bs)).exons) (omega arith))

    pub is_down : first ≤ p → last ≤ p → downstream_by r (p - last + 1) ≡ locate r (oriented (lent m ss es ps is gs ge bs)) p
    unfolding locate
    is_down l u =
        let b = begins in let f = finishes in
        ap (λ (n : ℕ). downstream_by r (p - n + 1)) f
        ∙ rw (le-ltb p (first_start (oriented (lent m ss es ps is gs ge bs)).exons) (omega arith), le-leb (last_end (oriented (lent m ss es ps is gs ge bs)).exons) p (omega arith))

    inner : first ≤ p → p < last → place_found r (oriented (lent m ss es ps is gs ge bs)) p (find_exon_or_intron (oriented (lent m ss es ps is gs ge bs)).exons p) ≡ locate r (oriented (lent m ss es ps is gs ge bs)) p
    unfolding locate
    inner l u =
        let b = begins in let f = finishes in
        rw (le-ltb p (first_start (oriented (lent m ss es ps is gs ge bs)).exons) (omega arith), lt-leb (last_end (oriented (lent m ss es ps is gs ge bs)).exons) p (omega arith))

    -- what was found is the place
    by_found : (w : Found) → find_exon_or_intron (lent_exons m.strand ss es) p ≡ w → first ≤ p → p < last
        → place_found r (oriented (lent m ss es ps is gs ge bs)) p w ≡ locate r (oriented (lent m ss es ps is gs ge bs)) p
    by_found w e l u =
        ap (λ (v : Found). place_found r (oriented (lent m ss es ps is gs ge bs)) p v) (sym (ap (λ (xs : List Interval). find_exon_or_intron xs p) (exons_are m ss es ps is gs ge bs h) ∙ e)) ∙ inner l u

    pub is_exon_lem : (y : Feature) → exon_or_intron (find_exon_or_intron (lent_exons m.strand ss es) p) ≡ ExonOrIntron.Exon y → first ≤ p → p < last
        → exonic (oriented (lent m ss es ps is gs ge bs)) p y.index (is_exonic_splice_region (length (oriented (lent m ss es ps is gs ge bs)).exons) y.index (bases_of y) p) ≡ locate r (oriented (lent m ss es ps is gs ge bs)) p
    is_exon_lem y w l u = by_found (in_exon y.index (bases_of y)) (held_exon (find_exon_or_intron (lent_exons m.strand ss es) p) y w) l u

    pub is_intron : (y : Feature) → exon_or_intron (find_exon_or_intron (lent_exons m.strand ss es) p) ≡ ExonOrIntron.Intron y → first ≤ p → p < last
        → classify_intronic r (ltb 0 (length gs)) y.index (bases_of y) p ≡ locate r (oriented (lent m ss es ps is gs ge bs)) p
    is_intron y w l u =
        ap (λ (c : Bool). classify_intronic r c y.index (bases_of y) p) (coding_is m ss es ps is gs ge bs h)
        ∙ by_found (in_intron y.index (bases_of y)) (held_intron (find_exon_or_intron (lent_exons m.strand ss es) p) y w) l u

    pub is_outside_lem : exon_or_intron (find_exon_or_intron (lent_exons m.strand ss es) p) ≡ ExonOrIntron.Outside → first ≤ p → p < last → VariantLocation.Distal ≡ locate r (oriented (lent m ss es ps is gs ge bs)) p
    is_outside_lem w l u = by_found outside (held_outside (find_exon_or_intron (lent_exons m.strand ss es) p) w) l u
