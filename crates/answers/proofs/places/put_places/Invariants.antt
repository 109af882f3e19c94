use Prim.Native.Nat.{◌≤◌}
use mathlib.Core.Path.{◌≡◌}
use lib.ListN.{length}
use Rattle.transcript.specs.Transcript.{transcript_of}
use Rattle.answers.specs.Lists.{position_words}
use Rattle.answers.proofs.Blocks.{filled_to}
use Rattle.answers.proofs.places.put_places.Given as goal

abbrev pub invariant-loop-i : goal.invariant-loop-i
invariant-loop-i l =
    (l.i ≤ length l.positions)
    × (l.out ≡ filled_to (position_words l.ranges (transcript_of l.indexed.admitted.transcript.now) l.chromosome) 8 l.positions l.initial.out l.i)
