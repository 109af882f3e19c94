use Prim.Native.Nat.{ℕ, ◌+◌, ◌-◌, ◌*◌, ◌<◌}
use mathlib.Core.Path.{◌≡◌, sym, ◌∙◌, ap}
use mathlib.Core.List.{List}
use native.Mathlib.Omega.{arith}
use lib.ListN.{length, get_or}
use lib.IntN.{ℤ}
use lib.Seq.{sets}
use borrow.Rule.Slice.PartMut.{put_mid}
use Rattle.transcript.specs.Transcript.{transcript_of}
use Rattle.consequence.specs.declared.Call.{Call}
use Rattle.consequence.specs.Window.{Window, window_of}
use Rattle.consequence.specs.Call.{annotate_snv}
use Rattle.words.proofs.Putting.{put_part}
use Rattle.words.proofs.WordLengths.{called_length}
use Rattle.answers.specs.Calls.{snv, calls_of, call_words}
use Rattle.answers.proofs.Blocks.{filled_to, filled_none, filled_length, filled_more, filled_all}
use Rattle.answers.proofs.CallList.{Even, fit_even, fit_room, calls_length, call_at}
use Rattle.answers.proofs.calls.put_calls.Goals as goal
use Rattle.answers.proofs.calls.put_calls.Goals.{Start}

abbrev window : Start → Window
window b = window_of b.args.window.now

abbrev words : Start → Call → List ℤ
words b q = call_words b.args.ranges (transcript_of b.args.coded.indexed.admitted.transcript.now) (window b) q

length_20 : (b : Start) (q : Call) → length (words b q) ≡ 20
length_20 b q = called_length (annotate_snv b.args.ranges (transcript_of b.args.coded.indexed.admitted.transcript.now) (window b) q)

abbrev calls : Start → List Call
calls b = calls_of b.args.calls.now.chromosomes.now b.args.calls.now.positions.now b.args.calls.now.refs.now b.args.calls.now.alts.now

even : (b : Start) → Even b.args.calls.now.chromosomes.now b.args.calls.now.positions.now b.args.calls.now.refs.now b.args.calls.now.alts.now
even b = fit_even b.args.calls.now.chromosomes.now b.args.calls.now.positions.now b.args.calls.now.refs.now b.args.calls.now.alts.now b.args.out.now b.requires.fits

count : (b : Start) → length (calls b) ≡ length b.args.calls.now.positions.now
count b = calls_length b.args.calls.now.chromosomes.now b.args.calls.now.positions.now b.args.calls.now.refs.now b.args.calls.now.alts.now (even b)

room : (b : Start) → length b.args.out.now ≡ 20 * length (calls b)
room b = rw (count b) (fit_room b.args.calls.now.chromosomes.now b.args.calls.now.positions.now b.args.calls.now.refs.now b.args.calls.now.alts.now b.args.out.now b.requires.fits)

-- the buffer while the first i calls are answered
abbrev at : Start → ℕ → List ℤ
at b i = filled_to (words b) 20 (calls b) b.args.out.now i

-- the call at i
abbrev asked : Start → ℕ → Call
asked b i = snv (get_or b.args.calls.now.chromosomes.now i 0) (get_or b.args.calls.now.positions.now i 0) (get_or b.args.calls.now.refs.now i 0) (get_or b.args.calls.now.alts.now i 0)

more : (b : Start) (i : ℕ) → i < length b.args.calls.now.positions.now → sets (at b i) (20 * i) (words b (asked b i)) ≡ at b (i + 1)
more b i l =
    ap (λ (q : Call). sets (at b i) (20 * i) (words b q)) (sym (call_at b.args.calls.now.chromosomes.now b.args.calls.now.positions.now b.args.calls.now.refs.now b.args.calls.now.alts.now (even b) i l))
    ∙ filled_more (words b) 20 (length_20 b) (calls b) b.args.out.now (room b) i (snv 0 0 0 0) (rw (count b) l)

pub loop-i-init : goal.loop-i-init
loop-i-init c =
    let b = (goal.at.loop-i-init c).Start in
    (omega arith, filled_none (words b) 20 (length_20 b) (calls b) c.args.out.now (room b))

pub call_at-call-requires : goal.call_at-call-requires
call_at-call-requires c =
    let e = even (goal.at.call_at-call-requires c).Start in
    let a = e.chromosomes in
    let r = e.refs in
    let l = e.alts in
    (omega arith, omega arith, omega arith, omega arith)

pub loop-i-preserved : goal.loop-i-preserved
loop-i-preserved c =
    let b = (goal.at.loop-i-preserved c).Start in
    let l = c.loop-i in
    let q = asked b l.i in
    let n = length_20 b q in
    let r = room b in
    let k = count b in
    let o = ap length l.invariant.1 ∙ filled_length (words b) 20 (length_20 b) (calls b) b.args.out.now r l.i (omega arith) in (
      omega arith,
      ap (put_mid (20 * l.i) (20 * l.i + 20 - 20 * l.i) l.out) (c.put_snv.ensures ∙ ap (words b) c.call_at-call.ensures)
          ∙ put_part l.out (words b q) (20 * l.i) (20 * l.i + 20 - 20 * l.i) (omega arith) (omega arith)
          ∙ ap (λ (o : List ℤ). sets o (20 * l.i) (words b q)) l.invariant.1
          ∙ more b l.i (omega arith),
    )

pub returns : goal.returns
returns c =
    let b = (goal.at.returns c).Start in
    let l = c.loop-i in
    let n = count b in
    l.invariant.1 ∙ filled_all (words b) 20 (length_20 b) (calls b) c.args.out.now (room b) l.i (omega arith)
