-- The codon of a coding call holds the called base at the place in the codon.
-- Assumes nothing.
use Rattle.std.proofs.Common.{Option, Some, None}
use Prim.Native.Nat.{ℕ, ◌+◌, ◌-◌, ◌%◌, ◌<◌}
use mathlib.Core.Path.{◌≡◌, sym, ◌∙◌, ap}
use mathlib.Core.Bool.{true}
use native.Mathlib.Omega.{arith}
use lib.Dec.{eqb, leb, ltb}
use borrow.Author.Tests.{lt-ltb, le-ltb, eqb-true, eqb-false, leb-true}
use Rattle.common.proofs.TestParts.{on_test}
use Rattle.codon.specs.declared.Codon.{Codon}
use Rattle.transcript.specs.Orient.{Oriented, orient_base, oriented}
use Rattle.transcript.specs.Bases.{bases_in}
use Rattle.transcript.proofs.Orient.{orient_twice}
use Rattle.transcript.proofs.Admitted.{facts}
use Rattle.locate.specs.Place.{cds_offset, total_cds_length, coding_position}
use Rattle.locate.specs.PlaceKind.{is_cds_exon, place_offset}
use Rattle.locate.proofs.Coding.{coding_place, coding_offset}
use Rattle.locate.proofs.CodingExons.{segments_ascend}
use Rattle.consequence.specs.Window.{Window, in_window, byte_at, base_at, coding_fetched, coding_base}
use Rattle.consequence.specs.Reading.{cds_base, length_at, codon_length, codon_of, if_there, fetch_bases, fetch_codon}
use Rattle.consequence.specs.claims.Codons.{codon_byte, CodonHoldsBase}
use Rattle.consequence.proofs.Refusals.{opening_within}
use Rattle.locate.proofs.CodingPositions.{base_numbered}
use Rattle.consequence.proofs.CallPlaces.{answers, call_admitted, call_window, call_location}

-- the place in the codon of a padded offset of the CDS is one that the codon has
length_holds : (total k : ℕ) → k < total → k % 3 < length_at total k
length_holds total k l = on_test (eqb (total % 3) 0)
    (λ e. (let z = eqb-true (total % 3) 0 e in rw e (omega arith)))
    (λ e. on_test (leb (total - total % 3) k)
    (λ f. (let u = leb-true (total - total % 3) k f in rw (e, f) (omega arith)))
    (λ f. rw (e, f) (omega arith)))

abbrev byte_of : Option ℕ → ℕ
byte_of (Some b) = b
byte_of None = 0

abbrev bytes_of : Option Codon → Codon
bytes_of (Some c) = c
bytes_of None = record { len = 0; first = 0; second = 0; third = 0 }

lost : {A : Type 0} {c : Codon} → None ≡ Some c → A
lost h = absurd (let z : ◌≡◌ {A = ℕ} 0 1 = cc in omega arith)

-- the bytes of a codon that was read
read : (n : ℕ) (x y z : Option ℕ) (c : Codon) → codon_of n x y z ≡ Some c → record { len = n; first = byte_of x; second = byte_of y; third = byte_of z } ≡ c
read n (Some a) (Some b) (Some d) c h = ap bytes_of h
read n (Some a) (Some b) None c h = lost h
read n (Some a) None z c h = lost h
read n None y z c h = lost h

-- the byte at the place in the codon is the base at the padded offset
module _ (t : Oriented) (view : ℕ → Option ℕ) (k : ℕ) (c : Codon) (l : k < total_cds_length t) (h : fetch_codon t view k ≡ Some c) where
  abbrev n : ℕ
  n = codon_length t k

  bytes : record { len = n; first = byte_of (cds_base t view (k - k % 3)); second = byte_of (if_there (ltb 1 n) (cds_base t view (k - k % 3 + 1))); third = byte_of (if_there (ltb 2 n) (cds_base t view (k - k % 3 + 2))) } ≡ c
  unfolding fetch_bases
  bytes = read n (cds_base t view (k - k % 3)) (if_there (ltb 1 n) (cds_base t view (k - k % 3 + 1))) (if_there (ltb 2 n) (cds_base t view (k - k % 3 + 2))) c h

  long : k % 3 < n
  long = length_holds (total_cds_length t) k l

  pub byte_held : codon_byte c (k % 3) ≡ byte_of (cds_base t view k)
  byte_held = sym (ap (λ (x : Codon). codon_byte x (k % 3)) bytes) ∙ on_test (eqb (k % 3) 0)
      (λ e. (let z = eqb-true (k % 3) 0 e in rw e (ap (λ (i : ℕ). byte_of (cds_base t view i)) (zeroth z))))
      (λ e. (let z = eqb-false (k % 3) 0 e in
      on_test (eqb (k % 3) 1)
      (λ f. (let y = eqb-true (k % 3) 1 f in let m = long in rw (e, f, lt-ltb 1 n (omega arith)) (ap (λ (i : ℕ). byte_of (cds_base t view i)) (first y))))
      (λ f. (let y = eqb-false (k % 3) 1 f in let m = long in rw (e, f, lt-ltb 2 n (omega arith)) (ap (λ (i : ℕ). byte_of (cds_base t view i)) (second z y))))))
    where
      zeroth : k % 3 ≡ 0 → k - k % 3 ≡ k
      zeroth e = omega arith

      first : k % 3 ≡ 1 → k - k % 3 + 1 ≡ k
      first e = omega arith

      second : (k % 3 ≡ 0 → ⊥) → (k % 3 ≡ 1 → ⊥) → k - k % 3 + 2 ≡ k
      second e f = omega arith

-- the coding base at the padded offset of a base of the segments
base_at_lem : (t : Oriented) (view : ℕ → Option ℕ) (p k : ℕ) → k ≡ cds_offset t p → coding_position t.segments (bases_in t.segments 0 p) ≡ p → cds_base t view k ≡ view p
unfolding cds_base
base_at_lem t view p k e h =
    rw (e, le-ltb (t.pad + bases_in t.segments 0 p) t.pad (omega arith), less t.pad (bases_in t.segments 0 p), h)
  where
    less : (m n : ℕ) → m + n - m ≡ n
    less m n = omega arith

-- a base in the window
base_there : (w : Window) (p : ℕ) → in_window w p ≡ true → base_at w p ≡ Some (byte_at w p)
unfolding base_at
base_there w p v = rw v

pub codon_holds_base : CodonHoldsBase
codon_holds_base r t w q a c h e g =
    let ad = call_admitted r t w q a h in
    let f = facts t ad in
    let σ = t.model.strand in
    let p = orient_base σ q.position in
    let loc = call_location r t w q a h in
    let i = sym (coding_place t f r p) ∙ sym (ap is_cds_exon loc) ∙ e in
    let o : place_offset a.location ≡ cds_offset (oriented t) p = ap place_offset loc ∙ coding_offset r (oriented t) p (sym (ap is_cds_exon loc) ∙ e) in
    let b = base_numbered (oriented t).segments 0 p (segments_ascend t f) i in
    let l = b.0 in
    let m = opening_within t w q ad (answers r t w q a h).0 in
    let back = orient_twice σ q.position (omega arith) in
    let v = base_there w q.position (call_window r t w q a h).0 in
    byte_held (oriented t) (coding_base σ w) (place_offset a.location) c (omega arith) g
    ∙ ap byte_of (base_at_lem (oriented t) (coding_base σ w) p (place_offset a.location) o b.1)
    ∙ ap (λ (x : ℕ). byte_of (coding_fetched σ (base_at w x))) back
    ∙ ap (λ (x : Option ℕ). byte_of (coding_fetched σ x)) v
