-- Records at a position of the walk's order, read from the columns.
-- Assumes nothing.
use Prim.Native.Nat.{ℕ, ◌+◌, ◌≤◌, ◌<◌}
use mathlib.Core.Path.{◌≡◌, refl, sym, ◌∙◌, ap}
use mathlib.Core.Bool.{Bool, true, false, cond}
use mathlib.Core.List.{List, [], ◌∷◌, ◌++◌, map}
use native.Mathlib.Omega.{arith}
use lib.ListN.{length, get_or, length-map}
use lib.Seq.{get_or-append-add}
use lib.Dec.{eqb}
use borrow.Author.Tests.{eq-eqb}
use Rattle.transcript.specs.Transcript.{exons_of, segments_of, even_lists}
use Rattle.deck.specs.Records.{kind_of, mark_of, word}
use Rattle.deck.specs.code.Reached.{bounds_list}
use Rattle.deck.specs.Deck.{exon_at, segment_at}
use Rattle.deck.specs.code.Table.{column, number_of, part, run_end, bounds_end}
use Rattle.deck.proofs.Grown.{Kind}
use Rattle.deck.proofs.ColumnParts.{column_first, column_part}
use Rattle.deck.proofs.KindRuns.{first_kind, run_of, bounds_of}

-- lists lent apart, from records
pub exons_map : (d is : List ℕ) → exons_of (map (λ i. word d i 4) is) (map (λ i. word d i 8) is) ≡ map (exon_at d) is
unfolding exons_of
exons_map d [] = refl
exons_map d (i ∷ is) = rw (exons_map d is)

pub segments_map : (d is : List ℕ) → Kind d 4 is
    → segments_of (map (mark_of d) is) (map (number_of d) is) (map (λ i. word d i 4) is) (map (λ i. word d i 8) is) ≡ map (segment_at d) is
unfolding segments_of
segments_map d [] h = refl
segments_map d (i ∷ is) h = rw (segments_map d is h.1, h.0.0)

pub even_maps : (f g m n : ℕ → ℕ) (xs gs : List ℕ) → even_lists (map f xs) (map g xs) (map m gs) (map n gs) (map f gs) (map g gs) ≡ true
even_maps f g m n xs gs =
    let same : (a b : ℕ → ℕ) (is : List ℕ) → eqb (length (map a is)) (length (map b is)) ≡ true
    = (λ a b is. eq-eqb (length (map a is)) (length (map b is)) (length-map is a ∙ sym (length-map is b))) in
    rw (same f g xs, same f m gs, same f n gs, same f g gs)

-- positions given by an equation
module _ {o : List ℕ} (l m r : List ℕ) (e : o ≡ l ++ (m ++ r)) {n : ℕ} (en : n ≡ length l) where
  pub at_part : (f : ℕ → ℕ) → part n (n + length m) (column f o) ≡ map f m
  at_part f = rw (e, en) (column_part f l m r)

  pub at_run : (d : List ℕ) (k : ℕ) → n + length m < 4096 → Kind d k m → (first_kind d r ≡ k → ⊥) → n + length m ≡ run_end (column (kind_of d) o) k n
  at_run d k i h f = rw (e, en) (sym (run_of d l m r (rw en at i) k h f))

  pub at_bounds : (d : List ℕ) → n + length m < 4096 → length m ≤ 1 → Kind d 2 m → (first_kind d r ≡ 2 → ⊥) → n + length m ≡ bounds_end (column (kind_of d) o) n
  at_bounds d i few h f = rw (e, en) (sym (bounds_of d l m r (rw en at i) few h f))

pub at_row : {o : List ℕ} (l : List ℕ) (x : ℕ) (r : List ℕ) → o ≡ l ++ (x ∷ r) → {n : ℕ} → n ≡ length l → (f : ℕ → ℕ) → get_or (column f o) n 0 ≡ f x
at_row l x r e en f = rw (e, en) (column_first f l x r)

-- and in the order itself
pub at_first : {o : List ℕ} (l : List ℕ) (x : ℕ) (r : List ℕ) → o ≡ l ++ (x ∷ r) → get_or o (length l) 0 ≡ x
at_first l x r e =
    let n : length l ≡ length l + 0 = omega arith in
    rw e (ap (λ (i : ℕ). get_or (l ++ (x ∷ r)) i 0) n ∙ get_or-append-add l (x ∷ r) 0 0)

pub few_bounds : (b : ℕ) → length (bounds_list b) ≤ 1
few_bounds b = here (eqb b 0)
  where
    here : (s : Bool) → length {A = ℕ} (cond s [] (b ∷ [])) ≤ 1
    here true = omega arith
    here false = omega arith
