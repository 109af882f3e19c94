-- Whether an interval hits a window; the loop over the gaps that gathers the windows hit; the spill of a transcript without short gaps.
-- Assumes nothing.
use Prim.Native.Nat.{ℕ, ◌+◌, ◌<◌}
use mathlib.Core.Path.{◌≡◌, refl, sym, ◌∙◌}
use mathlib.Core.Bool.{Bool, true, false, ◌&&◌, ◌||◌}
use mathlib.Core.List.{List, [], ◌∷◌}
use lib.ListN.{length, get_or, drop}
use Rattle.common.specs.Lists.{any}
use Rattle.common.proofs.Lists.{any_step, any_end, any_none}
use Rattle.transcript.specs.Orient.{Interval, Oriented}
use Rattle.transcript.specs.Bases.{gaps}
use Rattle.transcript.proofs.Listed.{nowhere}
use Rattle.footprint.specs.ShortIntron.{is_frameshift_gap, overlap, hits, donor_window, acceptor_window, spills_into, exonic_splice_spill}

module _ (q gap window : Interval) where
  pub apart : overlap q gap ≡ false → overlap q window ≡ hits q gap window
  apart h = rw h

-- a window of some gap is hit: of the first i gaps, which d says, or of the others
abbrev pub Gathered : (Interval → Interval) → Interval → List Interval → Bool → ℕ → Type 0
Gathered window q gs d i = (d || any (spills_into window q) (drop i gs)) ≡ any (spills_into window q) gs

module _ (window : Interval → Interval) (q : Interval) (gs : List Interval) (d : Bool) (i : ℕ) (h : Gathered window q gs d i) where
  -- gap i is read, then its window, then whether that is hit
  pub gathered_go : {gap w : Interval} {hit e : Bool} → i < length gs → gap ≡ get_or gs i nowhere → w ≡ window gap → hit ≡ (is_frameshift_gap gap && hits q gap w) → e ≡ (d || hit) → Gathered window q gs e (i + 1)
  gathered_go l g w s e = rw (e, s, w, g) (step d) ∙ h
    where
      step : (d : Bool) → ((d || spills_into window q (get_or gs i nowhere)) || any (spills_into window q) (drop (i + 1) gs)) ≡ (d || any (spills_into window q) (drop i gs))
      step true = refl
      step false = sym (any_step (spills_into window q) gs i nowhere l)

  pub gathered_end : i ≡ length gs → d ≡ any (spills_into window q) gs
  gathered_end e = sym (rw (any_end (spills_into window q) gs i e) (none d)) ∙ h
    where
      none : (d : Bool) → (d || false) ≡ d
      none true = refl
      none false = refl

-- no short gap, no spill
none_short : (g : Interval → Bool) (gs : List Interval) → any is_frameshift_gap gs ≡ false → any (λ x. is_frameshift_gap x && g x) gs ≡ false
none_short g [] h = refl
none_short g (x ∷ gs) h = let n = any_none is_frameshift_gap x gs h in rw n.0 (none_short g gs n.1)

pub no_short_gap : (t : Oriented) (q : Interval) → any is_frameshift_gap (gaps t.exons) ≡ false → exonic_splice_spill t q ≡ record { donor = false; acceptor = false }
unfolding exonic_splice_spill
no_short_gap t q h =
    let d = none_short (λ x. hits q x (donor_window x)) (gaps t.exons) h in
    let a = none_short (λ x. hits q x (acceptor_window x)) (gaps t.exons) h in
    λ i. record { donor = d i; acceptor = a i }
