-- Demand 1 of a call, and the numbers of what it reads.
-- Assumes nothing.
use Rattle.std.proofs.Common.{Option}
use Prim.Native.Nat.{ℕ, ◌+◌}
use mathlib.Core.Path.{◌≡◌, refl}
use native.Mathlib.Omega.{arith}
use mathlib.Core.Bool.{Bool, true, false, not, ◌&&◌, ◌||◌}
use lib.Dec.{eqb, ltb}
use Rattle.common.specs.Refuse.{refuse, or_else}
use Rattle.common.specs.Lists.{memb}
use Rattle.common.proofs.TestParts.{on_test}
use Rattle.transcript.specs.Transcript.{Transcript}
use Rattle.transcript.specs.Admission.{admission}
use Rattle.transcript.specs.claims.Numbers.{admission_numbers}
use Rattle.transcript.specs.Question.{bad_interval, is_elsewhere}
use Rattle.transcript.proofs.NumbersGiven.{among_refuse, among_else, among_in, outcome_given, admission_among}
use Rattle.footprint.specs.declared.Ranges.{Ranges}
use Rattle.locate.specs.PlaceKind.{is_distal, is_cds_exon, place_offset}
use Rattle.consequence.specs.declared.Call.{Call}
use Rattle.consequence.specs.Window.{Window, in_window, byte_at, base_at}
use Rattle.consequence.specs.Reading.{cds_base, if_there, codon_of, fetch_bases}
use Rattle.consequence.specs.Call.{is_outside, bad_alt, opening_refusal, call_place, call_codon, lacks_codon, closing_refusal, call_refusal, call_result, annotate_snv}
use Rattle.consequence.specs.Numbers.{codon_base_number, fetched_codon_number}
use Rattle.consequence.specs.claims.Numbers.{call_numbers, CallGiven, PositionNumbered, CodonNumbered, BasesNumbered, BaseValued, CodonValued}
use Rattle.codon.specs.declared.Codon.{Codon}

module _ (r : Ranges) (t : Transcript) (w : Window) (q : Call) where
  opening_among : memb (opening_refusal t w q) call_numbers ≡ true
  unfolding opening_refusal
  opening_among =
      among_else call_numbers (admission t) _ (among_in admission_numbers call_numbers refl (admission t) (admission_among t))
      (among_refuse call_numbers (bad_interval q.position (q.position + 1)) 15 _ refl
      (among_refuse call_numbers (is_elsewhere t q.chromosome || is_elsewhere t w.chromosome) 14 _ refl
      (among_refuse call_numbers (bad_alt q) 16 _ refl
      (among_refuse call_numbers (not (in_window w q.position)) 17 _ refl
      (among_refuse call_numbers (not (eqb q.ref_base (byte_at w q.position))) 18 0 refl refl)))))

  closing_among : (distal lacks : Bool) → memb (closing_refusal distal lacks) call_numbers ≡ true
  closing_among true lacks = refl
  closing_among false true = refl
  closing_among false false = refl

  pub call_among : memb (call_refusal r t w q) call_numbers ≡ true
  unfolding call_refusal
  call_among = among_else call_numbers (opening_refusal t w q) _ opening_among (closing_among (is_distal (call_place r t q)) (lacks_codon (call_codon t w) (call_place r t q)))

pub call_given : CallGiven
unfolding annotate_snv
call_given r t w q =
    outcome_given (call_result r t w q) call_numbers refl (call_refusal r t w q) (call_among r t w q)

pub position_numbered : PositionNumbered
unfolding base_at
position_numbered w q = on_test (in_window w q.position) (λ e. rw e) (λ e. rw e)

behind_19 : (distal coding : Bool) (c : Option Codon) → closing_refusal distal (coding && is_outside c) ≡ refuse distal 19 (refuse coding (fetched_codon_number c) 0)
behind_19 distal coding c = grind arith

pub codon_numbered : CodonNumbered
codon_numbered distal codon place = behind_19 distal (is_cds_exon place) (codon (place_offset place))

first_base : (n : ℕ) (a b c : Option ℕ) → fetched_codon_number (codon_of n a b c) ≡ or_else (codon_base_number a) (or_else (codon_base_number b) (codon_base_number c))
first_base n a b c = grind arith

pub bases_numbered : BasesNumbered
unfolding fetch_bases
bases_numbered t view n k = first_base n (cds_base t view k) (if_there (ltb 1 n) (cds_base t view (k + 1))) (if_there (ltb 2 n) (cds_base t view (k + 2)))

pub base_valued : BaseValued
unfolding base_at
base_valued outside w p = on_test (in_window w p) (λ e. rw e (refl, refl)) (λ e. rw e (refl, refl))

pub codon_valued : CodonValued
unfolding fetch_bases
codon_valued t view n k a b c x y z = rw (x, y, z)
