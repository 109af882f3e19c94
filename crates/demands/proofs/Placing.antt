-- The longer's place at a base inside the shorter is the shorter's, carried.
use Prim.Native.Nat.{ℕ, zero, suc, ◌+◌, ◌-◌, ◌≤◌, ◌<◌}
use mathlib.Core.Path.{◌≡◌, refl, sym, ◌∙◌, ap}
use mathlib.Core.Bool.{Bool, true, false, ◌||◌}
use native.Mathlib.Omega.{arith}
use lib.ListN.{length}
use borrow.Author.Tests.{le-ltb, lt-leb}
use Rattle.locate.specs.declared.VariantLocation.{VariantLocation}
use Rattle.footprint.specs.declared.Ranges.{Ranges}
use Rattle.transcript.specs.Orient.{Interval, Oriented}
use Rattle.transcript.specs.Bases.{total_size, first_start, last_end}
use Rattle.locate.specs.Find.{Found, in_exon, in_intron, outside, find_exon_or_intron}
use Rattle.locate.specs.Intronic.{classify_distances, classify_intronic}
use Rattle.locate.specs.Place.{is_exonic_splice_region, exonic, place_found, locate}
use Rattle.locate.proofs.Finding.{shifted, Inner}
use Rattle.demands.specs.Longer.{near_ends}
use Rattle.demands.specs.Carry.{Added, carry_place}
use Rattle.demands.proofs.Carrying.{cond_carry}
use Rattle.demands.proofs.Widened.{end_moved, start_moved}
use Rattle.demands.proofs.Around.{Around, around_length, around_edges, around_bases, around_find, around_inner}
use Rattle.demands.proofs.Alike.{Alike}
use Rattle.demands.proofs.Marking.{mark_first, mark_inner}

-- what the longer adds, seen from oriented base p
abbrev pub added_at : (S L : Oriented) → Around S.exons L.exons → ℕ → Added
added_at S L w p = record {
  exons5 = length w.before;
  bases5 = total_size w.before + (first_start S.exons - w.begin);
  exons = length w.before + length w.after;
  mark = near_ends w.before w.after w.begin w.finish p;
}

intron_carry : (x : Added) (r : Ranges) (coding : Bool) (i : ℕ) (gap : Interval) (p : ℕ) → classify_intronic r coding (i + x.exons5) gap p ≡ carry_place x (classify_intronic r coding i gap p)
unfolding classify_distances carry_place
intron_carry x r true i gap p = simp cond_carry
intron_carry x r false i gap p = simp cond_carry

module _ (S L : Oriented) (a : Alike S L) (p : ℕ) (h : first_start S.exons ≤ p) (l : p < last_end S.exons) (x : Added) where
  exon_carry : (i : ℕ) (m : Bool) → exonic L p (i + x.exons5) (m || x.mark) ≡ carry_place x (exonic S p i m)
  unfolding exonic carry_place
  exon_carry i m = go S.coding refl
    where
      go : (c : Bool) → S.coding ≡ c → exonic L p (i + x.exons5) (m || x.mark) ≡ carry_place x (exonic S p i m)
      go true e =
          let five = around_bases S.exons L.exons a.exons p S.cds.start h (a.cds_starts e).1 in
          let three = around_bases S.exons L.exons a.exons S.cds.end (p + 1) (a.cds_ends e).0 (omega arith) in
          rw (a.coding, a.cds, a.segments, a.pad, e, five, three) (simp cond_carry)
      go false e = rw (a.coding, e)

module _ (S L : Oriented) (a : Alike S L) (p : ℕ) (h : first_start S.exons ≤ p) (l : p < last_end S.exons) (r : Ranges) where
  found_carry : (w : Found) → Inner (first_start S.exons) (last_end S.exons) (length S.exons) w
      → place_found r L p (shifted (length a.exons.before) (end_moved (length S.exons) a.exons.finish (start_moved a.exons.begin w))) ≡ carry_place (added_at S L a.exons p) (place_found r S p w)
  found_carry (in_exon zero x) i =
      let e = a.exons.ends in
      rw (around_length S.exons L.exons a.exons, mark_first a.exons.before a.exons.after (length S.exons) a.exons.begin a.exons.finish p x i.0 (omega arith))
      (exon_carry S L a p h l (added_at S L a.exons p) 0 (is_exonic_splice_region (length S.exons) 0 x p))
  found_carry (in_exon (suc k) x) i =
      let b = a.exons.begins in
      let e = a.exons.ends in
      rw (around_length S.exons L.exons a.exons, mark_inner a.exons.before a.exons.after (length S.exons) a.exons.begin a.exons.finish p k x i.0 (omega arith) (omega arith))
      (exon_carry S L a p h l (added_at S L a.exons p) (suc k) (is_exonic_splice_region (length S.exons) (suc k) x p))
  found_carry (in_intron k gap) i = rw a.coding (intron_carry (added_at S L a.exons p) r S.coding k gap p)
  found_carry outside i = absurd i

  -- a base between the outer edges
  locate_inner : (t : Oriented) → first_start t.exons ≤ p → p < last_end t.exons → locate r t p ≡ place_found r t p (find_exon_or_intron t.exons p)
  unfolding locate
  locate_inner t u v = rw (le-ltb p (first_start t.exons) u, lt-leb (last_end t.exons) p v)

  pub locate_carry : locate r L p ≡ carry_place (added_at S L a.exons p) (locate r S p)
  locate_carry =
      let g = around_edges S.exons L.exons a.exons in
      let b = a.exons.begins in
      let e = a.exons.ends in
      locate_inner L (omega arith) (omega arith)
      ∙ ap (λ (w : Found). place_found r L p w) (around_find S.exons L.exons a.exons p h l)
      ∙ found_carry (find_exon_or_intron S.exons p) (around_inner S.exons L.exons a.exons p l)
      ∙ ap (λ (w : VariantLocation). carry_place (added_at S L a.exons p) w) (sym (locate_inner S h l))
