-- What an admitted question about an interval has, and the exons of an admitted transcript.
-- Assumes nothing.
use Prim.Native.Nat.{ℕ, ◌≤◌}
use mathlib.Core.Path.{◌≡◌, ap}
use mathlib.Core.Bool.{false}
use native.Mathlib.Omega.{arith}
use lib.ListN.{length}
use Rattle.std.specs.Prelude.{Result, Ok}
use Rattle.common.specs.declared.refusal.Refusal.{Refusal}
use Rattle.common.specs.Lists.{any}
use Rattle.common.specs.Refuse.{refuse}
use Rattle.common.specs.Refusal.{outcome}
use Rattle.common.proofs.TestParts.{refuse_none, or_else_none}
use Rattle.transcript.specs.declared.Transcript.{Transcript as Lent}
use Rattle.transcript.specs.declared.admission.Admitted.{Admitted}
use Rattle.transcript.specs.Limits.{top, max_exons}
use Rattle.transcript.specs.Transcript.{Transcript, transcript_of}
use Rattle.transcript.specs.Orient.{oriented}
use Rattle.transcript.specs.Admission.{bad_exon, admission}
use Rattle.transcript.specs.Question.{bad_interval, is_elsewhere, question_refusal, interval_refusal}
use Rattle.transcript.specs.code.Lent.{exons_in, oriented_in}
use Rattle.transcript.specs.code.Admitted.{lent_by}
use Rattle.transcript.proofs.Facts.{Facts}
use Rattle.transcript.proofs.Admitted.{facts}
use Rattle.transcript.proofs.LentFacts.{admits}
use Rattle.transcript.proofs.Lending.{not_refused, lends}
use Rattle.transcript.proofs.OnParts.{on}
use Rattle.transcript.proofs.Asking.{interval_within}

-- a question about [s, e) that is not refused
pub record Ready (t : Lent) (a : Admitted) (chromosome s e : ℕ) : Type 0 where
  pub none : interval_refusal (transcript_of t) chromosome s e ≡ 0
  pub same : a.transcript.now ≡ t
  pub facts_are : Facts (transcript_of t)
  pub start_low : s ≤ top
  pub end_low : e ≤ top

none_parts : (t : Transcript) (chromosome s e : ℕ) → interval_refusal t chromosome s e ≡ 0 → (admission t ≡ 0) × (bad_interval s e ≡ false)
unfolding question_refusal
none_parts t chromosome s e h =
    let b = refuse (is_elsewhere t chromosome) 14 0 in
    let n = or_else_none (admission t) (refuse (bad_interval s e) 15 b) h in
    (n.0, (refuse_none (bad_interval s e) 15 b (omega arith) n.1).0)

pub ready : (t : Lent) (chromosome s e : ℕ) (r : Result Admitted Refusal) (a : Admitted)
    → lent_by r ≡ outcome (interval_refusal (transcript_of t) chromosome s e) t → r ≡ Ok a → Ready t a chromosome s e
ready t chromosome s e r a h g =
    let w = interval_refusal (transcript_of t) chromosome s e in
    let z = not_refused t w r h a g in
    let n = none_parts (transcript_of t) chromosome s e z in
    let i = interval_within s e n.1 in
    let f = i.0 in let l = i.1 in
    record { none = z; same = lends t w r h a g; facts_are = facts (transcript_of t) n.0; start_low = omega arith; end_low = omega arith }

-- the exons of an admitted transcript
pub record Exons (t : Lent) : Type 0 where
  pub even : length t.exons.starts.now ≡ length t.exons.ends.now
  pub few : length t.exons.starts.now ≤ max_exons
  pub edges : any bad_exon (exons_in t.exons) ≡ false
  pub are : (oriented (transcript_of t)).exons ≡ oriented_in t.model.strand t.exons

pub exons : (t : Lent) → admission (transcript_of t) ≡ 0 → Exons t
unfolding oriented
exons t h =
    let k = on t admits h in
    record { even = k.even; few = k.few; edges = k.edges; are = ap (λ (t : Transcript). (oriented t).exons) k.same }
