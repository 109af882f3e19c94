-- Cumulative lengths: how many there are, each from the one before, their bound and the last.
-- Assumes nothing.
use Prim.Native.Nat.{ℕ, zero, suc, ◌+◌, ◌-◌, ◌≤◌, ◌<◌}
use mathlib.Core.Path.{◌≡◌, refl, ◌∙◌, ap}
use mathlib.Core.List.{List, [], ◌∷◌, map}
use native.Mathlib.Omega.{arith}
use lib.ListN.{length, get_or, replicate, get_or-append}
use Rattle.transcript.specs.Transcript.{exons_of}
use Rattle.common.specs.Stored.{filled}
use Rattle.locate.specs.Index.{cumulative}
use Rattle.transcript.specs.Bases.{sum}
use Rattle.transcript.specs.code.Lent.{exon_size}

pub cumulative_length : (first : ℕ) (ns : List ℕ) → length (cumulative first ns) ≡ suc (length ns)
unfolding cumulative
cumulative_length first [] = refl
cumulative_length first (n ∷ ns) = ap suc (cumulative_length (first + n) ns)

pub cumulative_first : (first : ℕ) (ns : List ℕ) → get_or (cumulative first ns) 0 0 ≡ first
unfolding cumulative
cumulative_first first [] = refl
cumulative_first first (n ∷ ns) = refl

pub cumulative_next : (first : ℕ) (ns : List ℕ) (k : ℕ) → k < length ns → get_or (cumulative first ns) (suc k) 0 ≡ get_or (cumulative first ns) k 0 + get_or ns k 0
unfolding cumulative
cumulative_next first [] k l = absurd (omega arith)
cumulative_next first (n ∷ ns) zero l = cumulative_first (first + n) ns
cumulative_next first (n ∷ ns) (suc k) l = cumulative_next (first + n) ns k (omega arith)

pub cumulative_le : (first : ℕ) (ns : List ℕ) (k : ℕ) → k ≤ length ns → get_or (cumulative first ns) k 0 ≤ first + sum ns
unfolding cumulative sum
cumulative_le first [] zero l = omega arith
cumulative_le first [] (suc k) l = absurd (omega arith)
cumulative_le first (n ∷ ns) zero l = omega arith
cumulative_le first (n ∷ ns) (suc k) l = let r = cumulative_le (first + n) ns k (omega arith) in omega arith

pub cumulative_last : (first : ℕ) (ns : List ℕ) → get_or (cumulative first ns) (length ns) 0 ≡ first + sum ns
unfolding cumulative sum
cumulative_last first [] = omega arith
cumulative_last first (n ∷ ns) = let r = cumulative_last (first + n) ns in omega arith

-- the zeros behind the sums are not read
pub filled_at : (first : ℕ) (ns : List ℕ) (k : ℕ) → k ≤ length ns → get_or (filled 513 (cumulative first ns)) k 0 ≡ get_or (cumulative first ns) k 0
filled_at first ns k l =
    let n = cumulative_length first ns in
    get_or-append (cumulative first ns) (replicate (513 - length (cumulative first ns)) 0) 0 k (omega arith)

-- the lengths that the code reads
pub sizes_length : (ss es : List ℕ) → length ss ≡ length es → length (map exon_size (exons_of ss es)) ≡ length ss
unfolding exons_of
sizes_length [] es h = refl
sizes_length (s ∷ ss) [] h = absurd (omega arith)
sizes_length (s ∷ ss) (e ∷ es) h = ap suc (sizes_length ss es (omega arith))

pub sizes_at : (ss es : List ℕ) (k : ℕ) → length ss ≡ length es → k < length ss → get_or (map exon_size (exons_of ss es)) k 0 ≡ get_or es k 0 - get_or ss k 0
unfolding exons_of
sizes_at [] es k h l = absurd (omega arith)
sizes_at (s ∷ ss) [] k h l = absurd (omega arith)
sizes_at (s ∷ ss) (e ∷ es) zero h l = refl
sizes_at (s ∷ ss) (e ∷ es) (suc k) h l = sizes_at ss es k (omega arith) (omega arith)

-- the sums of lent lengths, at an index
module _ (first : ℕ) (ss es : List ℕ) (q : length ss ≡ length es) where
  pub sums_count : length (cumulative first (map exon_size (exons_of ss es))) ≡ suc (length ss)
  sums_count = cumulative_length first (map exon_size (exons_of ss es)) ∙ ap suc (sizes_length ss es q)

  pub sums_next : (i : ℕ) → i < length ss
      → get_or (cumulative first (map exon_size (exons_of ss es))) (suc i) 0 ≡ get_or (cumulative first (map exon_size (exons_of ss es))) i 0 + (get_or es i 0 - get_or ss i 0)
  sums_next i l =
      let n = sizes_length ss es q in
      let s = sizes_at ss es i q l in
      let r = cumulative_next first (map exon_size (exons_of ss es)) i (omega arith) in
      omega arith

  pub sums_le : (i : ℕ) → i < length ss → get_or (cumulative first (map exon_size (exons_of ss es))) (suc i) 0 ≤ first + sum (map exon_size (exons_of ss es))
  sums_le i l = let n = sizes_length ss es q in cumulative_le first (map exon_size (exons_of ss es)) (suc i) (omega arith)
