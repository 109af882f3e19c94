use Prim.Native.Nat.{◌≤◌}
use mathlib.Core.Path.{◌≡◌}
use lib.ListN.{length}
use Rattle.transcript.specs.Transcript.{transcript_of}
use Rattle.consequence.specs.Window.{window_of}
use Rattle.answers.specs.Calls.{calls_of, call_words}
use Rattle.answers.proofs.Blocks.{filled_to}
use Rattle.answers.proofs.calls.put_calls.Given as goal

abbrev pub invariant-loop-i : goal.invariant-loop-i
invariant-loop-i l =
    let w = window_of l.window in
    let calls = calls_of l.calls.chromosomes.now l.calls.positions.now l.calls.refs.now l.calls.alts.now in
    (l.i ≤ length l.calls.positions.now) × (l.out ≡ filled_to (call_words l.ranges (transcript_of l.coded.indexed.admitted.transcript.now) w) 20 calls l.initial.out l.i)
