use Prim.Native.Nat.{ℕ, ◌+◌, ◌*◌}
use mathlib.Core.Path.{◌≡◌, ◌∙◌, ap}
use mathlib.Core.List.{List}
use native.Mathlib.Omega.{arith}
use lib.ListN.{length, get_or}
use lib.IntN.{ℤ}
use lib.Seq.{sets}
use Rattle.transcript.specs.Transcript.{transcript_of}
use Rattle.locate.specs.Query.{locate_position}
use Rattle.locate.specs.Numbers.{located_words}
use Rattle.words.proofs.WordLengths.{located_length}
use Rattle.answers.specs.Lists.{position_words}
use Rattle.words.specs.code.Near.{Answers, Near}
use Rattle.words.proofs.Capping.{located_fits}
use Rattle.answers.proofs.Blocks.{filled_none, filled_length, filled_more}
use Rattle.answers.proofs.Nearness.{near_located}
use Rattle.answers.proofs.places.put_places.Goals as goal
use Rattle.answers.proofs.places.put_places.Goals.{Start}

abbrev words : Start → ℕ → List ℤ
words b p = position_words b.args.ranges (transcript_of b.args.indexed.admitted.transcript.now) b.args.chromosome p

even : (b : Start) (p : ℕ) → length (words b p) ≡ 8
even b p = located_length (locate_position b.args.ranges (transcript_of b.args.indexed.admitted.transcript.now) b.args.chromosome p)

pub loop-i-init : goal.loop-i-init
loop-i-init c =
    let b = (goal.at.loop-i-init c).Start in
    (omega arith, filled_none (words b) 8 (even b) c.args.positions.now c.args.out.now c.requires.fits)

pub loop-i-preserved : goal.loop-i-preserved
loop-i-preserved c =
    let b = (goal.at.loop-i-preserved c).Start in
    let l = c.loop-i in
    let x = c.locate_position-located in
    let p = get_or c.args.positions.now l.i 0 in
    let k = ap length l.invariant.1 ∙ filled_length (words b) 8 (even b) c.args.positions.now c.args.out.now c.requires.fits l.i l.invariant.0 in
    let e = c.requires.fits in
    let near : Answers Near x.result = rw x.ensures (near_located c.args.ranges c.requires.near (transcript_of c.args.indexed.admitted.transcript.now) c.args.chromosome p (p + 1)) in (
      omega arith,
      c.put_located.ensures
          ∙ located_fits l.out (8 * l.i) x.result (omega arith) near
          ∙ (λ j. sets (l.invariant.1 j) (8 * l.i) (located_words (x.ensures j)))
          ∙ filled_more (words b) 8 (even b) c.args.positions.now c.args.out.now e l.i 0 (omega arith),
    )
