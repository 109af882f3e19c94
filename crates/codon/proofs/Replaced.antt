-- From an entry of the table of altered letters to the letter of the codon with one base replaced.
-- Assumes nothing.
use Rattle.std.proofs.Common.{ℕ, zero, suc, ◌+◌, ◌*◌, ◌/◌, ◌%◌, ◌≤◌, ◌<◌, ◌≡◌, refl, ◌∙◌, ap, Bool, true, false, cond, List, Some, None, arith}
use lib.Dec.{eqb}
use borrow.Author.Tests.{ne_eqb}
use Rattle.codon.specs.declared.Codon.{Codon}
use Rattle.codon.specs.Bases.{base_number, base_byte}
use Rattle.codon.specs.Table.{codon_to_index, letter_at, translate_codon, build_alt_codon}
use Rattle.codon.specs.Altered.{codon_numbered, altered_letter}
use Rattle.codon.proofs.Index.{byte_number, number_below, Found, found_place, found, not_found}

-- A, which stands for the base at the place
a_number : base_number 65 ≡ Some 0
unfolding base_number
a_number = refl

module _ (c : Codon) (b n k : ℕ) (hb : base_number b ≡ Some k) where
  below : k < 4
  below = rw hb at (number_below b)

  -- the codon at place n with base k put in stands where c with b put in stands
  replaced :
      (place : ℕ) → place ≤ 2 → n < 64 → Found c n →
      codon_to_index (build_alt_codon (codon_numbered n) place (base_byte k)) ≡ codon_to_index (build_alt_codon c place b)
  unfolding codon_to_index build_alt_codon
  replaced zero h hn f =
      let y : n / 4 % 4 < 4 = omega arith in
      let z : n % 4 < 4 = omega arith in
      rw (byte_number k below, byte_number (n / 4 % 4) y, byte_number (n % 4) z, hb, f.second, f.third)
  replaced (suc zero) h hn f =
      let x : n / 16 < 4 = omega arith in
      let z : n % 4 < 4 = omega arith in
      rw (byte_number (n / 16) x, byte_number k below, byte_number (n % 4) z, f.first, hb, f.third)
  replaced (suc (suc zero)) h hn f =
      let x : n / 16 < 4 = omega arith in
      let y : n / 4 % 4 < 4 = omega arith in
      rw (byte_number (n / 16) x, byte_number (n / 4 % 4) y, byte_number k below, f.first, f.second, hb)
  replaced (suc (suc (suc place))) h hn f = absurd (omega arith)

  -- the entry of a codon, a place and a base is the letter of the codon with the base there
  pub altered_is :
      (table : List ℕ) (place : ℕ) → place ≤ 2 → codon_to_index c ≡ Some n →
      altered_letter table (n * 12 + place * 4 + k) ≡ translate_codon table (build_alt_codon c place b)
  unfolding altered_letter translate_codon
  altered_is table place h e =
      let hk : k < 4 = below in
      let x : (n * 12 + place * 4 + k) / 12 ≡ n = omega arith in
      let y : (n * 12 + place * 4 + k) / 4 % 3 ≡ place = omega arith in
      let z : (n * 12 + place * 4 + k) % 4 ≡ k = omega arith in
      let f = found c n e in
      rw (x, y, z) (ap (letter_at table) (replaced place h f.below f))

-- a place is not none
refuted : (d : Codon) (n : ℕ) → codon_to_index d ≡ None → Found d n → ⊥
refuted d n e f = let p = found_place f in cc

-- a codon that is none stays none, whatever is put in where a base stood
pub altered_none :
    (c : Codon) (place b : ℕ) → place ≤ 2 → codon_to_index (build_alt_codon c place 65) ≡ None →
    codon_to_index (build_alt_codon c place b) ≡ None
unfolding build_alt_codon
altered_none c zero b h e = not_found (build_alt_codon c 0 b) (λ n f.
    let l = f.below in
    refuted (build_alt_codon c 0 65) (n % 16) e (record {
      first = a_number ∙ ap Some (omega arith);
      second = f.second ∙ ap Some (omega arith);
      third = f.third ∙ ap Some (omega arith);
      below = omega arith;
    }))
altered_none c (suc zero) b h e = not_found (build_alt_codon c 1 b) (λ n f.
    let l = f.below in
    refuted (build_alt_codon c 1 65) (n / 16 * 16 + n % 4) e (record {
      first = f.first ∙ ap Some (omega arith);
      second = a_number ∙ ap Some (omega arith);
      third = f.third ∙ ap Some (omega arith);
      below = omega arith;
    }))
altered_none c (suc (suc zero)) b h e = not_found (build_alt_codon c 2 b) (λ n f.
    let l = f.below in
    refuted (build_alt_codon c 2 65) (n / 4 * 4) e (record {
      first = f.first ∙ ap Some (omega arith);
      second = f.second ∙ ap Some (omega arith);
      third = a_number ∙ ap Some (omega arith);
      below = omega arith;
    }))
altered_none c (suc (suc (suc place))) b h e = absurd (omega arith)

-- a codon with a byte put in that is no base is none
pub altered_lost : (c : Codon) (place b : ℕ) → place ≤ 2 → base_number b ≡ None → codon_to_index (build_alt_codon c place b) ≡ None
unfolding build_alt_codon
altered_lost c zero b h l = not_found (build_alt_codon c 0 b) (λ n f. let x = f.first in cc)
altered_lost c (suc zero) b h l = not_found (build_alt_codon c 1 b) (λ n f. let x = f.second in cc)
altered_lost c (suc (suc zero)) b h l = not_found (build_alt_codon c 2 b) (λ n f. let x = f.third in cc)
altered_lost c (suc (suc (suc place))) b h l = absurd (omega arith)

again : (t : Bool) (x y z : ℕ) → cond t x (cond t y z) ≡ cond t x z
again true x y z = refl
again false x y z = refl

-- of two bases put in at one place the second stands
pub altered_again : (c : Codon) (place a b : ℕ) → build_alt_codon (build_alt_codon c place a) place b ≡ build_alt_codon c place b
unfolding build_alt_codon
altered_again c place a b = λ k. record {
  len = c.len;
  first = again (eqb place 0) b a c.first k;
  second = again (eqb place 1) b a c.second k;
  third = again (eqb place 2) b a c.third k;
}

-- a place over 2 is no place of a codon
pub unaltered : (c : Codon) (place b : ℕ) → 2 < place → build_alt_codon c place b ≡ c
unfolding build_alt_codon
unaltered c place b h = rw (ne_eqb place 0 (λ e. omega arith), ne_eqb place 1 (λ e. omega arith), ne_eqb place 2 (λ e. omega arith))
