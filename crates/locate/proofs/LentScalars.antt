-- The scalars of the index of an admitted transcript whose lists are lent apart, in terms of the lists.
-- Assumes nothing.
use Prim.Native.Nat.{ℕ, ◌+◌, ◌-◌, ◌≤◌, ◌<◌}
use mathlib.Core.Path.{◌≡◌, refl, sym, ◌∙◌, ap}
use mathlib.Core.Bool.{Bool, true, false, cond}
use mathlib.Core.List.{List}
use native.Mathlib.Omega.{arith}
use native.Mathlib.Nat.{zero-add}
use lib.ListN.{length, get_or, length-map}
use lib.Dec.{ltb}
use Rattle.common.specs.Lists.{any}
use Rattle.common.proofs.TestParts.{on_test}
use Rattle.transcript.specs.declared.TranscriptModel.{TranscriptModel}
use Rattle.transcript.specs.Transcript.{Transcript, lent, cds_start, cds_end}
use Rattle.transcript.specs.Orient.{Interval, orient, orient_base, Oriented, oriented}
use Rattle.transcript.specs.Bases.{inside, bases_in, gaps}
use Rattle.transcript.specs.Admission.{admission}
use Rattle.transcript.specs.code.Lent.{lent_exons}
use Rattle.footprint.specs.ShortIntron.{is_frameshift_gap}
use Rattle.locate.specs.Place.{interval_index}
use Rattle.locate.specs.Index.{index_scalars}
use Rattle.locate.specs.code.Sums.{first_sum, ExonSums, CdsSums}
use Rattle.locate.specs.code.Exonic.{head_of}
use Rattle.transcript.proofs.Facts.{Facts}
use Rattle.transcript.proofs.Orient.{inside_by}
use Rattle.transcript.proofs.Listed.{nowhere}
use Rattle.locate.proofs.CodingExons.{first_exon, first_is, first_holds, last_exon}
use Rattle.locate.proofs.LentTranscript.{known, ad, exons_are, bases_are, count, segment_count, coding_is, cds_is, head_is}
use Rattle.locate.proofs.LentIndex.{total}

-- a number that is read only where there is a CDS
where_coding : (c : Bool) (v w : ℕ) → (c ≡ true → v ≡ w) → cond c v 0 ≡ cond c w 0
where_coding true v w h = h refl
where_coding false v w h = refl

ending : (t : Transcript) → Facts t → (f n : ℕ) → f ≡ first_exon t → n ≡ length (oriented t).segments → cond (oriented t).coding (f + n - 1) 0 ≡ (index_scalars (oriented t)).cds_end_exon_idx
ending t w f n e g = on_test (oriented t).coding (λ c. (let l = last_exon t w c in rw c (omega arith))) (λ c. rw c)

module _ (m : TranscriptModel) (ss es ps is gs ge bs : List ℕ) (h : admission (lent m ss es ps is gs ge bs) ≡ 0) where
  abbrev o : Oriented
  o = oriented (lent m ss es ps is gs ge bs)

  -- the exon of the first coding base holds it
  pub first_holding : (first from : ℕ) → first ≡ head_of is → from ≡ (orient m.strand (cds_start m.cds) (cds_end m.cds)).start → ltb 0 (length gs) ≡ true
      → (first < length ss) × (inside from (get_or (lent_exons m.strand ss es) first nowhere) ≡ true)
  unfolding oriented
  first_holding first from e f c =
      let t = lent m ss es ps is gs ge bs in
      let k = first_holds t (known m ss es ps is gs ge bs h) (sym (coding_is m ss es ps is gs ge bs h) ∙ c) in
      let i = e ∙ head_is m ss es ps is gs ge bs h in
      let n = count m ss es ps is gs ge bs h in
      let l = k.0 in
      (omega arith, rw (f, ← cds_is m ss es ps is gs ge bs h (sym (coding_is m ss es ps is gs ge bs h) ∙ c), i, ← exons_are m ss es ps is gs ge bs h) (inside_by o.cds.start (get_or o.exons (first_exon t) nowhere) k.1 k.2))

  -- the exon of the last coding base
  pub last_bound : first_exon (lent m ss es ps is gs ge bs) + length gs ≤ 65536
  last_bound =
      let t = lent m ss es ps is gs ge bs in
      let f = known m ss es ps is gs ge bs h in
      let n = segment_count m ss es ps is gs ge bs h in
      let few = f.few in
      let seg = f.few_segments in
      on_test o.coding
      (λ c. (let l = (first_holds t f c).0 in let e = count m ss es ps is gs ge bs h in let a = (ad m ss es ps is gs ge bs h).few in let b = (ad m ss es ps is gs ge bs h).few_segments in omega arith))
      (λ c. (let b = (ad m ss es ps is gs ge bs h).few_segments in let z = first_is t f in let y = ap (λ (x : Bool). cond x (interval_index o.exons o.cds.start) 0) c in omega arith))

  pub scalars_are : (xs ys : List ℕ) → ExonSums o xs → CdsSums o ys → (u f l : ℕ) (s : Bool)
      → u ≡ cond (ltb 0 (length gs)) (first_sum xs + bases_in (lent_exons m.strand ss es) 0 (orient m.strand (cds_start m.cds) (cds_end m.cds)).start) 0
      → f ≡ head_of is → l ≡ cond (ltb 0 (length gs)) (f + length gs - 1) 0 → s ≡ any is_frameshift_gap (gaps (lent_exons m.strand ss es))
      → record {
        cds_start_pad = get_or ys 0 0;
        exon_count = length ss;
        segment_count = length gs;
        total_cds_length = get_or ys (length gs) 0;
        utr5_exonic_len = u;
        cds_start_exon_idx = f;
        cds_end_exon_idx = l;
        has_frameshift_intron = s;
        selenocysteine_count = length bs;
      } ≡ index_scalars o
  scalars_are xs ys qx qy u f l s eu ef el es' =
      let t = lent m ss es ps is gs ge bs in
      let w = known m ss es ps is gs ge bs h in
      let c = coding_is m ss es ps is gs ge bs h in
      let p = qy.1 in
      let n = sym (count m ss es ps is gs ge bs h) in
      let g = sym (segment_count m ss es ps is gs ge bs h) in
      let d = total m ss es ps is gs ge bs h ys qy in
      let x : u ≡ (index_scalars o).utr5_exonic_len = eu ∙ (λ k. cond (c k) (qx.1 k + bases_in (sym (exons_are m ss es ps is gs ge bs h) k) 0 (orient m.strand (cds_start m.cds) (cds_end m.cds)).start) 0) ∙ where_coding o.coding _ _ (λ y. zero-add _ ∙ ap (λ (v : Interval). bases_in o.exons 0 v.start) (sym (cds_is m ss es ps is gs ge bs h y))) in
      let a = ef ∙ head_is m ss es ps is gs ge bs h ∙ first_is t w in
      let z : l ≡ (index_scalars o).cds_end_exon_idx = el ∙ ap (λ (b : Bool). cond b (f + length gs - 1) 0) c ∙ ending t w f (length gs) (ef ∙ head_is m ss es ps is gs ge bs h) g in
      let y = es' ∙ ap (λ (v : List Interval). any is_frameshift_gap (gaps v)) (sym (exons_are m ss es ps is gs ge bs h)) in
      let b = sym (length-map bs (orient_base m.strand)) ∙ ap length (sym (bases_are m ss es ps is gs ge bs h)) in
      λ k. record {
        cds_start_pad = p k;
        exon_count = n k;
        segment_count = g k;
        total_cds_length = d k;
        utr5_exonic_len = x k;
        cds_start_exon_idx = a k;
        cds_end_exon_idx = z k;
        has_frameshift_intron = y k;
        selenocysteine_count = b k;
      }
