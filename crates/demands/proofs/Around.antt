-- Two lists of exons, the longer one around the shorter: what is found, counted and cut inside the shorter.
use Prim.Native.Nat.{ℕ, suc, ◌+◌, ◌-◌, ◌≤◌, ◌<◌}
use mathlib.Core.Path.{◌≡◌, refl, ◌∙◌, ap}
use mathlib.Core.Bool.{true}
use mathlib.Core.List.{List, [], ◌∷◌, ◌++◌, append-nil}
use native.Mathlib.Omega.{arith}
use lib.ListN.{length, length-append}
use Rattle.transcript.specs.Orient.{Interval, interval}
use Rattle.transcript.specs.Bases.{bases_in, total_size, first_start, last_end, end_after}
use Rattle.locate.specs.Find.{Found, find_exon_or_intron}
use Rattle.transcript.proofs.Ascends.{Ascends, ascends_append, end_append, first_append, ends_after}
use Rattle.locate.proofs.Counting.{bases_append, bases_before, bases_after}
use Rattle.locate.proofs.Sums.{bases_all}
use Rattle.transcript.proofs.Cutting.{parts, parts_append, parts_before, parts_after}
use Rattle.locate.proofs.Finding.{shifted, find_before, find_after_lem, Inner, find_inner}
use Rattle.demands.specs.Longer.{start_at, end_at, end_at_from, spaced_up_to, spaced_from}
use Rattle.demands.proofs.Widened.{length_end, last_end_lem, bases_end, bases_start, bases_gain, parts_end, parts_start, end_moved, start_moved, find_end, find_start}

-- as in `Longer`, with what admission adds: some exons, and both lists in order
pub record Around (S L : List Interval) : Type 0 where
  pub before : List Interval
  pub after : List Interval
  pub begin : ℕ
  pub finish : ℕ
  pub exons : L ≡ before ++ (end_at finish (start_at begin S) ++ after)
  pub begins : begin ≤ first_start S
  pub ends : last_end S ≤ finish
  pub spaced5 : spaced_up_to begin before ≡ true
  pub spaced3 : spaced_from finish after ≡ true
  pub some : 0 < length S
  pub short : Ascends 0 S
  pub long : Ascends 0 L

ordered_start : (e b f : ℕ) (x : Interval) (xs : List Interval) → Ascends e (end_at_from f (interval b x.end) xs) → e ≤ b
unfolding end_at_from
ordered_start e b f x [] o = o.0
ordered_start e b f x (y ∷ ys) o = o.0

first_joined : (b f : ℕ) (x : Interval) (xs ys : List Interval) → (0 < length (end_at_from f (interval b x.end) xs ++ ys)) × (first_start (end_at_from f (interval b x.end) xs ++ ys) ≡ b)
unfolding end_at_from
first_joined b f x [] ys = (omega arith, refl)
first_joined b f x (z ∷ zs) ys = (omega arith, refl)

-- the shorter's exons are x and xs
module _ (x : Interval) (xs L : List Interval) (w : Around (x ∷ xs) L) where
  abbrev inner : List Interval
  inner = end_at_from w.finish (interval w.begin x.end) xs

  -- the added exons are in order, and lie on their side of the inner ones
  long : Ascends 0 (w.before ++ (inner ++ w.after))
  long = rw w.exons at w.long

  order : (Ascends 0 w.before) × (end_after 0 w.before ≤ w.begin) × (Ascends w.finish w.after)
  order =
      let o = ascends_append w.before (inner ++ w.after) 0 long in
      let i = ascends_append inner w.after (end_after 0 w.before) o.1 in
      (o.0, ordered_start (end_after 0 w.before) w.begin w.finish x xs i.0, rw (last_end_lem w.finish (end_after 0 w.before) (interval w.begin x.end) xs) at i.1)

  core_length : length L ≡ suc (length xs) + (length w.before + length w.after)
  core_length =
      let a = ap (λ (l : List Interval). length l) w.exons in
      let b = length-append w.before (inner ++ w.after) in
      let c = length-append inner w.after in
      let d = length_end w.finish (interval w.begin x.end) xs in
      omega arith

  core_bases : (u v : ℕ) → x.start ≤ u → v ≤ end_after x.end xs → bases_in L u v ≡ bases_in (x ∷ xs) u v
  unfolding end_after
  core_bases u v h l =
      let o = order in
      let begins = w.begins in
      let ends = w.ends in
      let p = bases_before w.before 0 u v o.0 (omega arith) in
      let a = bases_after w.after w.finish u v o.2 (omega arith) in
      let e = bases_end w.finish u v (interval w.begin x.end) xs ends l in
      let s = bases_start w.begin u v x xs begins h in
      let i = ap (λ (l : List Interval). bases_in l u v) w.exons in
      let j = bases_append w.before (inner ++ w.after) u v in
      let k = bases_append inner w.after u v in
      omega arith

  core_count : (p : ℕ) → x.start ≤ p → p < end_after x.end xs → bases_in L 0 p ≡ bases_in (x ∷ xs) 0 p + (total_size w.before + (x.start - w.begin))
  unfolding end_after
  core_count p h l =
      let o = order in
      let begins = w.begins in
      let ends = w.ends in
      let u = bases_all w.before 0 p o.0 (omega arith) in
      let a = bases_after w.after w.finish 0 p o.2 (omega arith) in
      let e = bases_end w.finish 0 p (interval w.begin x.end) xs ends (omega arith) in
      let s = bases_gain w.begin p x xs begins w.short.1 h in
      let i = ap (λ (l : List Interval). bases_in l 0 p) w.exons in
      let j = bases_append w.before (inner ++ w.after) 0 p in
      let k = bases_append inner w.after 0 p in
      omega arith

  core_parts : (cds : Interval) → x.start ≤ cds.start → cds.end ≤ end_after x.end xs → parts cds L ≡ parts cds (x ∷ xs)
  unfolding end_after
  core_parts cds h l =
      let o = order in
      let begins = w.begins in
      let ends = w.ends in
      let p = parts_before cds w.before 0 o.0 (omega arith) in
      let a = parts_after cds w.after w.finish o.2 (omega arith) in
      ap (λ (l : List Interval). parts cds l) w.exons ∙ parts_append cds w.before (inner ++ w.after)
      ∙ rw (p, parts_append cds inner w.after, a, append-nil) (parts_end cds w.finish (interval w.begin x.end) xs ends l ∙ parts_start cds w.begin x xs begins h)

  core_find : (p : ℕ) → x.start ≤ p → p < end_after x.end xs
      → find_exon_or_intron L p ≡ shifted (length w.before) (end_moved (suc (length xs)) w.finish (start_moved w.begin (find_exon_or_intron (x ∷ xs) p)))
  unfolding end_after
  core_find p h l =
      let begins = w.begins in
      let ends = w.ends in
      let j = first_joined w.begin w.finish x xs w.after in
      let n = length_end w.finish (interval w.begin x.end) xs in
      let t = last_end_lem w.finish 0 (interval w.begin x.end) xs in
      ap (λ (l : List Interval). find_exon_or_intron l p) w.exons
      ∙ find_before w.before (inner ++ w.after) 0 p long j.0 (omega arith)
      ∙ ap (λ (v : Found). shifted (length w.before) v)
      (find_after_lem inner w.after p (omega arith) (omega arith)
      ∙ find_end w.finish p (interval w.begin x.end) xs l ends
      ∙ ap (λ (v : Found). end_moved (suc (length xs)) w.finish v) (find_start w.begin p x xs))

  core_edges : (first_start L ≤ w.begin) × (w.finish ≤ last_end L)
  core_edges =
      let j = first_joined w.begin w.finish x xs w.after in
      let a = first_append w.before (inner ++ w.after) 0 long j.0 in
      let b = ap (λ (l : List Interval). first_start l) w.exons in
      let c = ap (λ (l : List Interval). end_after 0 l) w.exons in
      let d = end_append w.before (inner ++ w.after) 0 ∙ end_append inner w.after (end_after 0 w.before) in
      let e = ap (λ (k : ℕ). end_after k w.after) (last_end_lem w.finish (end_after 0 w.before) (interval w.begin x.end) xs) in
      let g = ends_after w.finish w.after order.2 in
      (omega arith, omega arith)

none : (S L : List Interval) → Around S L → length S ≡ 0 → ⊥
none S L w e = let s = w.some in omega arith

pub around_length : (S L : List Interval) (w : Around S L) → length L ≡ length S + (length w.before + length w.after)
around_length [] L w = absurd (none [] L w refl)
around_length (x ∷ xs) L w = core_length x xs L w

pub around_edges : (S L : List Interval) (w : Around S L) → (first_start L ≤ w.begin) × (w.finish ≤ last_end L)
around_edges [] L w = absurd (none [] L w refl)
around_edges (x ∷ xs) L w = core_edges x xs L w

-- the count over an interval inside the shorter
pub around_bases : (S L : List Interval) (w : Around S L) (u v : ℕ) → first_start S ≤ u → v ≤ last_end S → bases_in L u v ≡ bases_in S u v
unfolding end_after
around_bases [] L w u v h l = absurd (none [] L w refl)
around_bases (x ∷ xs) L w u v h l = core_bases x xs L w u v h l

-- the count before a base inside the shorter
pub around_count : (S L : List Interval) (w : Around S L) (p : ℕ) → first_start S ≤ p → p < last_end S → bases_in L 0 p ≡ bases_in S 0 p + (total_size w.before + (first_start S - w.begin))
unfolding end_after
around_count [] L w p h l = absurd (none [] L w refl)
around_count (x ∷ xs) L w p h l = core_count x xs L w p h l

-- the parts in a CDS that lies inside the shorter
pub around_parts : (S L : List Interval) (w : Around S L) (cds : Interval) → first_start S ≤ cds.start → cds.end ≤ last_end S → parts cds L ≡ parts cds S
unfolding end_after
around_parts [] L w cds h l = absurd (none [] L w refl)
around_parts (x ∷ xs) L w cds h l = core_parts x xs L w cds h l

-- what is found at a base inside the shorter
pub around_find : (S L : List Interval) (w : Around S L) (p : ℕ) → first_start S ≤ p → p < last_end S
    → find_exon_or_intron L p ≡ shifted (length w.before) (end_moved (length S) w.finish (start_moved w.begin (find_exon_or_intron S p)))
unfolding end_after
around_find [] L w p h l = absurd (none [] L w refl)
around_find (x ∷ xs) L w p h l = core_find x xs L w p h l

pub around_inner : (S L : List Interval) (w : Around S L) (p : ℕ) → p < last_end S → Inner (first_start S) (last_end S) (length S) (find_exon_or_intron S p)
unfolding end_after
around_inner [] L w p l = absurd (none [] L w refl)
around_inner (x ∷ xs) L w p l = find_inner x xs p w.short l
