-- The longer's gaps are the shorter's and longer ones, so the spill stays.
use Prim.Native.Nat.{ℕ, ◌+◌, ◌-◌, ◌<◌}
use mathlib.Core.Path.{◌≡◌, refl, ◌∙◌, ap}
use mathlib.Core.Bool.{Bool, true, false, ◌&&◌, ◌||◌}
use mathlib.Core.List.{List, [], ◌∷◌, ◌++◌}
use native.Mathlib.Omega.{arith}
use lib.Dec.{ltb}
use borrow.Author.Tests.{ltb-true, lt-leb}
use Rattle.common.specs.Lists.{any}
use Rattle.common.proofs.TestParts.{and_true}
use Rattle.footprint.specs.Ranges.{frameshift_intron_max_gap}
use Rattle.transcript.specs.Orient.{Interval, interval, Oriented}
use Rattle.transcript.specs.Bases.{end_after, gaps_after, gaps}
use Rattle.footprint.specs.ShortIntron.{is_frameshift_gap, hits, donor_window, acceptor_window, exonic_splice_spill}
use Rattle.demands.specs.Longer.{end_at_from, spaced_up_to, spaced_from}
use Rattle.demands.proofs.Widened.{last_end_lem, gaps_end}
use Rattle.demands.proofs.Around.{Around}

-- a test that no gap of over 13 bases passes
module _ (g : Interval → Bool) (fails : (s e : ℕ) → s + frameshift_intron_max_gap < e → g (interval s e) ≡ false) where
  none_spaced : (e : ℕ) (ys : List Interval) → spaced_from e ys ≡ true → any g (gaps_after e ys) ≡ false
  unfolding gaps_after spaced_from
  none_spaced e [] h = refl
  none_spaced e (y ∷ ys) h =
      let b = and_true (ltb (e + frameshift_intron_max_gap) y.start) (spaced_from y.end ys) h in
      rw (fails e y.start (ltb-true (e + frameshift_intron_max_gap) y.start b.0)) (none_spaced y.end ys b.1)

  gaps_after_lem : (xs ys : List Interval) (e : ℕ) → spaced_from (end_after e xs) ys ≡ true → any g (gaps_after e (xs ++ ys)) ≡ any g (gaps_after e xs)
  unfolding gaps_after end_after
  gaps_after_lem [] ys e h = none_spaced e ys h
  gaps_after_lem (x ∷ xs) ys e h = ap (λ (t : Bool). g (interval e x.start) || t) (gaps_after_lem xs ys x.end h)

  gaps_before : (xs zs : List Interval) (z : Interval) → spaced_up_to z.start xs ≡ true → any g (gaps (xs ++ (z ∷ zs))) ≡ any g (gaps (z ∷ zs))
  unfolding gaps_after spaced_up_to
  gaps_before [] zs z h = refl
  gaps_before (x ∷ []) zs z h =
      let b = and_true (ltb (x.end + frameshift_intron_max_gap) z.start) true h in
      rw (fails x.end z.start (ltb-true (x.end + frameshift_intron_max_gap) z.start b.0))
  gaps_before (x ∷ y ∷ ys) zs z h =
      let b = and_true (ltb (x.end + frameshift_intron_max_gap) y.start) (spaced_up_to z.start (y ∷ ys)) h in
      rw (fails x.end y.start (ltb-true (x.end + frameshift_intron_max_gap) y.start b.0)) (gaps_before (y ∷ ys) zs z b.1)

  gaps_joined : (before after xs : List Interval) (x : Interval) (b f : ℕ) → spaced_up_to b before ≡ true → spaced_from f after ≡ true
      → any g (gaps (before ++ (end_at_from f (interval b x.end) xs ++ after))) ≡ any g (gaps (x ∷ xs))
  unfolding end_at_from gaps_after
  gaps_joined before after [] x b f h l = gaps_before before after (interval b f) h ∙ none_spaced f after l
  gaps_joined before after (y ∷ ys) x b f h l =
      gaps_before before (end_at_from f y ys ++ after) (interval b x.end) h
      ∙ gaps_after_lem (end_at_from f y ys) after x.end (rw (last_end_lem f x.end y ys) l)
      ∙ ap (λ (k : List Interval). any g k) (gaps_end f x.end y ys)

  around_gaps : (S L : List Interval) → Around S L → any g (gaps L) ≡ any g (gaps S)
  around_gaps [] L w = absurd (let s = w.some in omega arith)
  around_gaps (x ∷ xs) L w = ap (λ (k : List Interval). any g (gaps k)) w.exons ∙ gaps_joined w.before w.after xs x w.begin w.finish w.spaced5 w.spaced3

long_gap : (s e : ℕ) (t : Bool) → s + frameshift_intron_max_gap < e → (is_frameshift_gap (interval s e) && t) ≡ false
long_gap s e t h = rw (lt-leb (e - s) frameshift_intron_max_gap (omega arith)) (step (ltb 0 (e - s)))
  where
    step : (u : Bool) → (u && false && t) ≡ false
    step true = refl
    step false = refl

pub around_spill : (S L : Oriented) (q : Interval) → Around S.exons L.exons → exonic_splice_spill L q ≡ exonic_splice_spill S q
unfolding exonic_splice_spill
around_spill S L q w =
    let d = around_gaps (λ gap. is_frameshift_gap gap && hits q gap (donor_window gap)) (λ s e h. long_gap s e (hits q (interval s e) (donor_window (interval s e))) h) S.exons L.exons w in
    let a = around_gaps (λ gap. is_frameshift_gap gap && hits q gap (acceptor_window gap)) (λ s e h. long_gap s e (hits q (interval s e) (acceptor_window (interval s e))) h) S.exons L.exons w in
    λ i. record { donor = d i; acceptor = a i }
