-- Intervals that can be searched, at an index, and what a search finds from the number of them that start at or before the base.
-- Assumes nothing.
use Prim.Native.Nat.{ℕ, suc, ◌≤◌, ◌<◌}
use mathlib.Core.Path.{◌≡◌, sym, ap}
use mathlib.Core.List.{List}
use native.Mathlib.Omega.{arith}
use lib.ListN.{length, get_or}
use Rattle.transcript.specs.declared.Strand.{Strand}
use Rattle.locate.specs.declared.ExonOrIntron.{ExonOrIntron}
use Rattle.transcript.specs.Limits.{top}
use Rattle.transcript.specs.Transcript.{exons_of}
use Rattle.transcript.specs.Orient.{Interval, interval, orient}
use Rattle.transcript.specs.Bases.{last_end}
use Rattle.locate.specs.Find.{find_exon_or_intron}
use Rattle.transcript.specs.code.Lent.{lent_exons}
use Rattle.locate.specs.code.Features.{feature}
use Rattle.locate.specs.code.Search.{Ready, Started, exon_or_intron}
use Rattle.transcript.proofs.Ascends.{Ascends}
use Rattle.transcript.proofs.Admitted.{ascending_exons, exons_high}
use Rattle.transcript.proofs.Listed.{nowhere, oriented_length, oriented_at, edges_at}
use Rattle.transcript.proofs.Orient.{orient_high, orient_low}
use Rattle.locate.proofs.Walking.{at_exon, at_gap, at_past}

-- exons that are ready, at an index: what the code reads is what the list of intervals has there
module _ (σ : Strand) (ss es : List ℕ) (ad : Ready σ ss es) where
  pub ascends : Ascends 0 (lent_exons σ ss es)
  ascends = ascending_exons σ 0 (exons_of ss es) ad.edges ad.order

  pub high : last_end (lent_exons σ ss es) ≤ top
  high = exons_high σ 0 (exons_of ss es) ad.edges (omega arith)

  pub count : length (lent_exons σ ss es) ≡ length ss
  count = oriented_length σ ss es ad.even

  pub start_at_lem : (k : ℕ) → k < length ss → (get_or (lent_exons σ ss es) k nowhere).start ≡ (orient σ (get_or ss k 0) (get_or es k 0)).start
  start_at_lem k l = ap (λ (x : Interval). x.start) (oriented_at σ ss es k ad.even l)

  pub end_at_lem : (k : ℕ) → k < length ss → (get_or (lent_exons σ ss es) k nowhere).end ≡ (orient σ (get_or ss k 0) (get_or es k 0)).end
  end_at_lem k l = ap (λ (x : Interval). x.end) (oriented_at σ ss es k ad.even l)

  pub start_low : (k : ℕ) → k < length ss → get_or ss k 0 ≤ top
  start_low k l = let s = edges_at ss es k ad.edges ad.even l in omega arith

  pub end_low : (k : ℕ) → k < length ss → get_or es k 0 ≤ top
  end_low k l = let s = edges_at ss es k ad.edges ad.even l in omega arith

  pub start_top : (k : ℕ) → k < length ss → (get_or (lent_exons σ ss es) k nowhere).start ≤ top
  start_top k l =
      let s = edges_at ss es k ad.edges ad.even l in
      let e = start_at_lem k l in
      let t = orient_low σ (get_or ss k 0) (get_or es k 0) (omega arith) in
      omega arith

  pub end_top : (k : ℕ) → k < length ss → (orient σ (get_or ss k 0) (get_or es k 0)).end ≤ top
  end_top k l = let s = edges_at ss es k ad.edges ad.even l in orient_high σ (get_or ss k 0) (get_or es k 0) s.1

-- the answers of the search, from the number of exons that have started
module _ (σ : Strand) (ss es : List ℕ) (ad : Ready σ ss es) (p n : ℕ) (le : n ≤ length ss) (st : Started (lent_exons σ ss es) p n) where
  pub found_exon : (i : ℕ) → suc i ≡ n → p < (get_or (lent_exons σ ss es) i nowhere).end
      → ExonOrIntron.Exon (feature i (get_or (lent_exons σ ss es) i nowhere)) ≡ exon_or_intron (find_exon_or_intron (lent_exons σ ss es) p)
  found_exon i e h =
      let c = count σ ss es ad in
      sym (ap exon_or_intron (at_exon (lent_exons σ ss es) 0 i p (ascends σ ss es ad) (omega arith) (st.before i (omega arith)) h))

  pub found_gap : (i : ℕ) → suc i ≡ n → n < length ss → (get_or (lent_exons σ ss es) i nowhere).end ≤ p
      → ExonOrIntron.Intron (feature i (interval (get_or (lent_exons σ ss es) i nowhere).end (get_or (lent_exons σ ss es) n nowhere).start)) ≡ exon_or_intron (find_exon_or_intron (lent_exons σ ss es) p)
  found_gap i e l h =
      let c = count σ ss es ad in
      let s : p < (get_or (lent_exons σ ss es) (suc i) nowhere).start = rw e (st.after n (omega arith) (omega arith)) in
      cc (ap exon_or_intron (at_gap (lent_exons σ ss es) 0 i p (ascends σ ss es ad) (omega arith) h s))

  pub found_past : (i : ℕ) → suc i ≡ n → length ss ≤ n → (get_or (lent_exons σ ss es) i nowhere).end ≤ p → ExonOrIntron.Outside ≡ exon_or_intron (find_exon_or_intron (lent_exons σ ss es) p)
  found_past i e l h =
      let c = count σ ss es ad in
      sym (ap exon_or_intron (at_past (lent_exons σ ss es) 0 i p (ascends σ ss es ad) (omega arith) h))
