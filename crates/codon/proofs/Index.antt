-- What is known of a base number and of a codon's place in the table.
-- Assumes nothing.
use Rattle.std.proofs.Common.{ℕ, zero, suc, ◌+◌, ◌*◌, ◌/◌, ◌%◌, ◌<◌, ◌≡◌, refl, ap, Option, Some, None, arith}
use Rattle.common.proofs.TestParts.{on_test}
use Rattle.codon.specs.declared.Codon.{Codon}
use Rattle.codon.specs.Bases.{is_base, base_number, base_byte}
use Rattle.codon.specs.Table.{place_of, codon_to_index}

-- a base number's byte has that number
pub byte_number : (n : ℕ) → n < 4 → base_number (base_byte n) ≡ Some n
unfolding base_number base_byte
byte_number zero h = refl
byte_number (suc zero) h = refl
byte_number (suc (suc zero)) h = refl
byte_number (suc (suc (suc zero))) h = refl
byte_number (suc (suc (suc (suc n)))) h = absurd (omega arith)

-- one of four
abbrev pub IsNumber : Option ℕ → Type 0
IsNumber (Some n) = n < 4
IsNumber None = Unit {0}

pub number_below : (b : ℕ) → IsNumber (base_number b)
unfolding base_number
number_below b = on_test (is_base b) (λ h. rw h (grind arith)) (λ h. rw h tt)

-- the bytes of a codon are bases, and n is the place made of their numbers
pub record Found (c : Codon) (n : ℕ) : Type 0 where
  pub first : base_number c.first ≡ Some (n / 16)
  pub second : base_number c.second ≡ Some (n / 4 % 4)
  pub third : base_number c.third ≡ Some (n % 4)
  pub below : n < 64

pub found_place : {c : Codon} {n : ℕ} → Found c n → codon_to_index c ≡ Some n
unfolding codon_to_index
found_place {c} {n} f = rw (f.first, f.second, f.third) (ap Some (omega arith))

parts :
    (x y z : Option ℕ) (n : ℕ) → IsNumber x → IsNumber y → IsNumber z → place_of x y z ≡ Some n →
    (x ≡ Some (n / 16)) × (y ≡ Some (n / 4 % 4)) × (z ≡ Some (n % 4)) × (n < 64)
parts (Some x) (Some y) (Some z) n hx hy hz e =
    let s : x * 16 + y * 4 + z ≡ n = cc in
    (ap Some (omega arith), ap Some (omega arith), ap Some (omega arith), omega arith)
parts (Some x) (Some y) None n hx hy hz e = cc
parts (Some x) None z n hx hy hz e = cc
parts None y z n hx hy hz e = cc

pub found : (c : Codon) (n : ℕ) → codon_to_index c ≡ Some n → Found c n
unfolding codon_to_index
found c n e =
    let p = parts (base_number c.first) (base_number c.second) (base_number c.third) n
    (number_below c.first) (number_below c.second) (number_below c.third) e in
    record { first = p.0; second = p.1; third = p.2; below = p.3 }

is_none : (x : Option ℕ) → ((n : ℕ) → x ≡ Some n → ⊥) → x ≡ None
is_none (Some n) h = absurd (h n refl)
is_none None h = refl

-- a codon of which nothing is found has no place
pub not_found : (c : Codon) → ((n : ℕ) → Found c n → ⊥) → codon_to_index c ≡ None
not_found c none = is_none (codon_to_index c) (λ n e. none n (found c n e))

-- a codon's place is below 64
pub codon_below : (c : Codon) (n : ℕ) → codon_to_index c ≡ Some n → n < 64
codon_below c n e = (found c n e).below
