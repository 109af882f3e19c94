-- The loop that compares lent segments with the cuts of lent exons, in terms of what the code reads.
-- Assumes nothing.
use Prim.Native.Nat.{ℕ, ◌+◌, ◌≤◌, ◌<◌, min, max}
use mathlib.Core.Path.{◌≡◌, sym, ◌∙◌, ap}
use mathlib.Core.Bool.{Bool, true, false}
use mathlib.Core.List.{List, map}
use native.Mathlib.Omega.{arith}
use lib.ListN.{length, get_or, drop}
use lib.Dec.{eqb}
use Rattle.transcript.specs.declared.Strand.{Strand}
use Rattle.transcript.specs.Transcript.{exons_of}
use Rattle.transcript.specs.Orient.{Interval, interval, orient, orient_exon}
use Rattle.transcript.specs.Cuts.{Cut, cut_at, meet, cuts, same_cut, same_cuts}
use Rattle.transcript.specs.code.Lent.{listed_cuts, Cuttable}
use Rattle.transcript.proofs.Listed.{nowhere, oriented_length, oriented_at}
use Rattle.transcript.proofs.CutSteps.{listed_length, listed_at, cut_pass, cut_lacks, cut_differs, cut_same, cut_end}

-- the comparison of segments lent apart with the cuts of exons lent apart, from segment k and exon i on
abbrev pub matches : Strand → List ℕ → List ℕ → ℕ → ℕ → List ℕ → List ℕ → List ℕ → ℕ → ℕ → Bool
matches σ ss es a b is gs ge k i = same_cuts (drop k (listed_cuts σ is gs ge)) (cuts (orient σ a b) i (drop i (map (orient_exon σ) (exons_of ss es))))

pub record Matched (σ : Strand) (ss es : List ℕ) (a b : ℕ) (is gs ge : List ℕ) (k i : ℕ) : Type 0 where
  pub within : i ≤ length ss
  pub some : k ≤ length is
  pub same : matches σ ss es a b is gs ge k i ≡ same_cuts (listed_cuts σ is gs ge) (cuts (orient σ a b) 0 (map (orient_exon σ) (exons_of ss es)))

module _ (σ : Strand) (ss es : List ℕ) (a b : ℕ) (is gs ge : List ℕ) (u : Cuttable ss es a b is gs ge) (k i : ℕ) (m : Matched σ ss es a b is gs ge k i) where
  abbrev cs : List Cut
  cs = listed_cuts σ is gs ge

  abbrev xs : List Interval
  xs = map (orient_exon σ) (exons_of ss es)

  abbrev whole : Bool
  whole = same_cuts cs (cuts (orient σ a b) 0 xs)

  exon_count : length xs ≡ length ss
  exon_count = oriented_length σ ss es u.even

  cut_count : length cs ≡ length is
  cut_count = listed_length σ is gs ge u.even_indexes u.even_ends

  pub match_end : i ≡ length ss → eqb k (length is) ≡ whole
  match_end e =
      let n = cut_count in let s = m.some in
      ap (eqb k) (sym n) ∙ sym (cut_end cs (orient σ a b) xs k i (e ∙ sym exon_count) (omega arith)) ∙ m.same

  -- [lo, hi) is what exon i has of the CDS
  module _ (l : i < length ss) (lo hi : ℕ) (f : lo ≡ max (orient σ (get_or ss i 0) (get_or es i 0)).start (orient σ a b).start) (g : hi ≡ min (orient σ (get_or ss i 0) (get_or es i 0)).end (orient σ a b).end) where
    here_is : meet (get_or xs i nowhere) (orient σ a b) ≡ interval lo hi
    here_is = rw (oriented_at σ ss es i u.even l) (λ j. interval (sym f j) (sym g j))

    start_is : (meet (get_or xs i nowhere) (orient σ a b)).start ≡ lo
    start_is = ap (λ (x : Interval). x.start) here_is

    end_is : (meet (get_or xs i nowhere) (orient σ a b)).end ≡ hi
    end_is = ap (λ (x : Interval). x.end) here_is

    in_exons : i < length xs
    in_exons = let n = exon_count in omega arith

    pub match_pass : hi ≤ lo → Matched σ ss es a b is gs ge k (i + 1)
    match_pass h =
        record {
          within = omega arith;
          some = m.some;
          same = sym (cut_pass cs (orient σ a b) xs k i in_exons (rw (start_is, end_is) h)) ∙ m.same;
        }

    pub match_lacks : lo < hi → k ≡ length is → false ≡ whole
    match_lacks h e = sym (cut_lacks cs (orient σ a b) xs k i in_exons (rw (start_is, end_is) h) (e ∙ sym cut_count)) ∙ m.same

    module _ (h : lo < hi) (q : k < length is) where
      in_cuts : k < length cs
      in_cuts = let n = cut_count in omega arith

      abbrev segment : Cut
      segment = cut_at (get_or is k 0) (orient σ (get_or gs k 0) (get_or ge k 0))

      at : get_or cs k (cut_at 0 nowhere) ≡ segment
      at = listed_at σ is gs ge k u.even_indexes u.even_ends q

      pub match_differs : same_cut segment (cut_at i (interval lo hi)) ≡ false → false ≡ whole
      match_differs n = sym (cut_differs cs (orient σ a b) xs k i in_exons (rw (start_is, end_is) h) in_cuts segment at (ap (λ (x : Interval). same_cut segment (cut_at i x)) here_is ∙ n)) ∙ m.same

      pub match_same : same_cut segment (cut_at i (interval lo hi)) ≡ true → Matched σ ss es a b is gs ge (k + 1) (i + 1)
      match_same n =
          record {
            within = omega arith;
            some = omega arith;
            same = sym (cut_same cs (orient σ a b) xs k i in_exons (rw (start_is, end_is) h) in_cuts segment at (ap (λ (x : Interval). same_cut segment (cut_at i x)) here_is ∙ n)) ∙ m.same;
          }
