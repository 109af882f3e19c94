-- The place that a call's answer names is near.
-- Assumes nothing.
use Prim.Native.Nat.{◌<◌, ◌^◌}
use Rattle.transcript.specs.Transcript.{Transcript}
use Rattle.transcript.specs.Orient.{orient_base, oriented}
use Rattle.footprint.specs.declared.Ranges.{Ranges}
use Rattle.consequence.specs.declared.Call.{Call}
use Rattle.consequence.specs.Window.{Window, coding_byte}
use Rattle.consequence.specs.Call.{call_place, call_codon, call_refusal, call_result, annotate_snv}
use Rattle.words.specs.code.Near.{Answers, NearResult}
use Rattle.consequence.proofs.CallPlaces.{located}
use Rattle.answers.proofs.Nearness.{near_place, near_outcome}

pub near_called : (r : Ranges) (t : Transcript) (w : Window) (q : Call) → r.flank < 2 ^ 32 → Answers NearResult (annotate_snv r t w q)
unfolding annotate_snv call_result
near_called r t w q l =
    let p = orient_base t.model.strand q.position in
    near_outcome NearResult (call_refusal r t w q) (call_result r t w q)
    (rw (located _ (oriented t) p (coding_byte t.model.strand q.alt_base) (call_codon t w) (call_place r t q)) (near_place r l (oriented t) p))
