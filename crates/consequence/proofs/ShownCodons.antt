-- The codons that an answer shows are the codon of the called base and that codon with the call's base put in.
-- Assumes nothing.
use Rattle.std.proofs.Common.{Option, Some, None}
use Prim.Native.Nat.{ℕ, ◌+◌, ◌-◌, ◌%◌}
use mathlib.Core.Path.{◌≡◌, refl, sym, ◌∙◌, ap}
use mathlib.Core.List.{List}
use mathlib.Core.Bool.{Bool, true, false, cond, not}
use native.Mathlib.Omega.{arith}
use lib.Dec.{eqb, leb, ltb}
use borrow.Author.Tests.{eqb-false, eq-eqb}
use Rattle.common.proofs.TestParts.{on_test, true_false}
use Rattle.codon.specs.declared.Codon.{Codon}
use Rattle.codon.specs.declared.Codons.{Codons}
use Rattle.codon.specs.Table.{translate_reference_codon, build_alt_codon}
use Rattle.transcript.specs.Orient.{Oriented, orient_base, oriented}
use Rattle.transcript.specs.Bases.{first_start, last_end}
use Rattle.footprint.specs.declared.Ranges.{Ranges}
use Rattle.locate.specs.declared.VariantLocation.{VariantLocation}
use Rattle.locate.specs.declared.VariantLocation.TheVariants.{Upstream, Downstream, Distal, FivePrimeUtr, CdsExon, ThreePrimeUtr, SpliceDonor, SpliceAcceptor, SpliceRegion, Intron, FrameshiftIntron, NonCodingExon, NonCodingIntron}
use Rattle.locate.specs.Find.{Found, in_exon, in_intron, outside, find_exon_or_intron}
use Rattle.locate.specs.Intronic.{classify_intronic}
use Rattle.locate.specs.Place.{exonic, place_found, locate}
use Rattle.locate.specs.PlaceKind.{is_cds_exon, place_offset}
use Rattle.locate.proofs.Coding.{intron_not_coding}
use Rattle.consequence.specs.declared.ConsequenceResult.{ConsequenceResult}
use Rattle.consequence.specs.Window.{coding_byte}
use Rattle.consequence.specs.Reading.{is_incomplete_terminal_codon, holds_selenocysteine}
use Rattle.consequence.specs.Coding.{shows_codon}
use Rattle.consequence.specs.Answer.{codon_columns, place_result}
use Rattle.consequence.specs.Call.{call_table, call_place, call_codon, call_result}
use Rattle.consequence.specs.claims.Codons.{codon_byte, ShownCodons}
use Rattle.consequence.proofs.CallPlaces.{answers, call_location}
use Rattle.consequence.proofs.CodonHolds.{codon_holds_base}
use Rattle.codon.specs.Display.{change_at}

-- the place in the codon of a CdsExon, 0 of every other place
abbrev codon_place : VariantLocation → ℕ
codon_place (Upstream d) = 0
codon_place (Downstream d) = 0
codon_place Distal = 0
codon_place (FivePrimeUtr i d m) = 0
codon_place (CdsExon i g o n k m) = k
codon_place (ThreePrimeUtr i d m) = 0
codon_place (SpliceDonor i d) = 0
codon_place (SpliceAcceptor i d) = 0
codon_place (SpliceRegion i s d) = 0
codon_place (Intron i d) = 0
codon_place (FrameshiftIntron i d) = 0
codon_place (NonCodingExon i m) = 0
codon_place (NonCodingIntron i d) = 0

-- of the place of a base it is the padded offset's
abbrev InCodon : VariantLocation → Type 0
InCodon place = is_cds_exon place ≡ true → codon_place place ≡ place_offset place % 3

either : (b : Bool) (x y : VariantLocation) → InCodon x → InCodon y → InCodon (cond b x y)
either true x y f g = f
either false x y f g = g

not_coding : (x : VariantLocation) → is_cds_exon x ≡ false → InCodon x
not_coding x h e = absurd (true_false (sym e ∙ h))

module _ (r : Ranges) (t : Oriented) (p : ℕ) where
  found_in : (f : Found) → InCodon (place_found r t p f)
  unfolding exonic
  found_in (in_exon i x) =
      either (not t.coding) _ _ (λ e. refl)
      (either (ltb p t.cds.start) _ _ (λ e. refl)
      (either (leb t.cds.end p) _ _ (λ e. refl) (λ e. refl)))
  found_in (in_intron i gap) = not_coding (classify_intronic r t.coding i gap p) (intron_not_coding r t.coding i (gap.end - gap.start) (p - gap.start + 1) (gap.end - p))
  found_in outside = λ e. refl

  place_in : InCodon (locate r t p)
  unfolding locate
  place_in =
      either (ltb p (first_start t.exons)) _ _
      (either (leb (first_start t.exons - p) r.flank) _ _ (λ e. refl) (λ e. refl))
      (either (leb (last_end t.exons) p) _ _
      (either (leb (p - last_end t.exons + 1) r.flank) _ _ (λ e. refl) (λ e. refl))
      (found_in (find_exon_or_intron t.exons p)))

-- what codons that are shown say
module _ (c d : Codon) (k : ℕ) where
  absent : {A : Type 0} → None ≡ Some (change_at c d k) → A
  absent h = absurd (let z : ◌≡◌ {A = ℕ} 0 1 = cc in omega arith)

  pub record Change (f : Option Codon) (alt place : ℕ) : Type 0 where
    pub read : f ≡ Some c
    pub altered : build_alt_codon c place alt ≡ d
    pub at : place ≡ k

  same : (x : Codon) (alt place : ℕ) → Some (change_at x (build_alt_codon x place alt) place) ≡ Some (change_at c d k) → Change (Some x) alt place
  same x alt place h =
      let s : change_at x (build_alt_codon x place alt) place ≡ change_at c d k = cc in
      let e = ap (λ (y : Codons). y.reference) s in
      let g = ap (λ (y : Codons). y.altered) s in
      let i = ap (λ (y : Codons). y.place) s in
      record { read = ap Some e; altered = sym (ap (λ (y : Codon). build_alt_codon y place alt) e) ∙ g; at = i }

  by_codon : (code : List ℕ) (t : Oriented) (o n place alt : ℕ) (f : Option Codon) → (codon_columns code t o n place alt f).codons ≡ Some (change_at c d k) → Change f alt place
  unfolding codon_columns
  by_codon code t o n place alt (Some x) h =
      on_test (is_incomplete_terminal_codon t o)
      (λ e. same x alt place (rw e at h))
      (λ e. on_test (shows_codon t n (translate_reference_codon code (holds_selenocysteine t n) x))
      (λ s. same x alt place (rw (e, s) at h))
      (λ s. absent (rw (e, s) at h)))
  by_codon code t o n place alt None h = absent h

  by_place : (code : List ℕ) (t : Oriented) (p alt : ℕ) (codon : ℕ → Option Codon) (place : VariantLocation) → (place_result code t p alt codon place).codons ≡ Some (change_at c d k)
      → (is_cds_exon place ≡ true) × Change (codon (place_offset place)) alt (codon_place place)
  unfolding place_result
  by_place code t p alt codon (Upstream e) h = absent h
  by_place code t p alt codon (Downstream e) h = absent h
  by_place code t p alt codon Distal h = absent h
  by_place code t p alt codon (FivePrimeUtr i e m) h = absent h
  by_place code t p alt codon (CdsExon i g o n j m) h = (refl, by_codon code t o.0 n j alt (codon o.0) h)
  by_place code t p alt codon (ThreePrimeUtr i e m) h = absent h
  by_place code t p alt codon (SpliceDonor i e) h = absent h
  by_place code t p alt codon (SpliceAcceptor i e) h = absent h
  by_place code t p alt codon (SpliceRegion i s e) h = absent h
  by_place code t p alt codon (Intron i e) h = absent h
  by_place code t p alt codon (FrameshiftIntron i e) h = absent h
  by_place code t p alt codon (NonCodingExon i m) h = absent h
  by_place code t p alt codon (NonCodingIntron i e) h = absent h

-- the base that is put in
put_in : (c : Codon) (k alt : ℕ) → codon_byte (build_alt_codon c (k % 3) alt) (k % 3) ≡ alt
unfolding build_alt_codon
put_in c k alt = on_test (eqb (k % 3) 0)
    (λ e. rw e)
    (λ e. on_test (eqb (k % 3) 1)
    (λ f. rw (e, f))
    (λ f. (let y = eqb-false (k % 3) 0 e in let z = eqb-false (k % 3) 1 f in rw (e, f, eq-eqb (k % 3) 2 (omega arith)))))

pub shown_codons : ShownCodons
unfolding call_result
shown_codons r t w q a c d k h e =
    let p = orient_base t.model.strand q.position in
    let alt = coding_byte t.model.strand q.alt_base in
    let loc = call_location r t w q a h in
    let x = by_place c d k (call_table t) (oriented t) p alt (call_codon t w) (call_place r t q) (sym (ap (λ (b : ConsequenceResult). b.codons) (answers r t w q a h).1) ∙ e) in
    let s = x.1 in
    let i = place_in r (oriented t) p x.0 in
    let g = ap place_offset loc in
    let m : k ≡ place_offset a.location % 3 = sym s.at ∙ i ∙ ap (λ (n : ℕ). n % 3) (sym g) in
    let b = codon_holds_base r t w q a c h (ap is_cds_exon loc ∙ x.0) (ap (call_codon t w) g ∙ s.read) in
    let v : d ≡ build_alt_codon c (place_offset a.location % 3) alt = sym s.altered ∙ ap (λ (n : ℕ). build_alt_codon c n alt) (s.at ∙ m) in
    (ap (codon_byte c) m ∙ b, (λ n. codon_byte (v n) (m n)) ∙ put_in c (place_offset a.location) alt)
