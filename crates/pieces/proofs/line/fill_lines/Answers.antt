use Prim.Native.Nat.{◌≤◌, ◌<◌}
use native.Mathlib.Omega.{arith}
use lib.ListN.{length}
use Rattle.deck.specs.declared.Table.{Table}
use Rattle.deck.specs.code.Table.{table_transcripts}
use Rattle.listing.specs.WindowFile.{window_of}
use Rattle.listing.proofs.Lines.{line_inside}
use Rattle.pieces.proofs.Filling.{filling_end}
use Rattle.pieces.proofs.CallLines.{put_as, lines_at, lines_end, line_whole, line_part}
use Rattle.pieces.proofs.line.fill_lines.Goals as goal
use Rattle.pieces.proofs.line.fill_lines.Goals.{After-line_end-to, Start}

abbrev table : Start → Table
table b = b.args.deck.table.now

-- the line ends behind its start, within the calls
inside : (c : After-line_end-to) → (c.loop-at.at < c.line_end-to.result) × (c.line_end-to.result ≤ length c.args.files.calls.now)
inside c = line_inside c.args.files.calls.now c.loop-at.at c.line_end-to.result (omega arith) c.line_end-to.ensures

pub slice_bounds-parse_call-end : goal.slice_bounds-parse_call-end
slice_bounds-parse_call-end c = let h = inside (goal.at.slice_bounds-parse_call-end c).After-line_end-to in let i = h.1 in omega arith

pub returns-in-Some : goal.returns-in-Some
returns-in-Some c =
    let a = c.args in
    let l = c.loop-at in
    let p = c.fill_parsed-put in
    let o = c.window_in-window.ensures in
    let n = c.line_number-number.ensures in
    put_as a.out.now (lines_at (table_transcripts (table (goal.at.returns-in-Some c).Start)) (window_of a.files.window.now) a.files.calls.now a.cursor n) (line_part (table_transcripts (table (goal.at.returns-in-Some c).Start)) (window_of a.files.window.now) a.files.calls.now l.number l.at l.entry c.line_end-to.result c.loop-at-test.true c.line_end-to.ensures l.invariant.0 c.parse_call.ensures (rw o at p.ensures.0) (rw o at p.ensures.1) c.in-Some.is)

pub loop-at-smaller : goal.loop-at-smaller
loop-at-smaller c = let h = inside (goal.at.loop-at-smaller c).After-line_end-to in let i = h.0 in omega arith

pub loop-at-preserved : goal.loop-at-preserved
loop-at-preserved c =
    let a = c.args in
    let l = c.loop-at in
    let p = c.fill_parsed-put in
    let o = c.window_in-window.ensures in
    let h = inside (goal.at.loop-at-preserved c).After-line_end-to in
    let i = h.0 in
    let j = h.1 in
    let k = l.invariant.1 in
    (line_whole (table_transcripts (table (goal.at.loop-at-preserved c).Start)) (window_of a.files.window.now) a.files.calls.now l.number l.at l.entry c.line_end-to.result c.loop-at-test.true c.line_end-to.ensures l.invariant.0 c.parse_call.ensures (rw o at p.ensures.0) (rw o at p.ensures.1) c.in_default.is, omega arith)

pub returns : goal.returns
returns c =
    let a = c.args in
    let l = c.loop-at in
    let n = c.line_number-number.ensures in
    put_as a.out.now (lines_at (table_transcripts (table (goal.at.returns c).Start)) (window_of a.files.window.now) a.files.calls.now a.cursor n) (filling_end l.invariant.0 (lines_end (table_transcripts (table (goal.at.returns c).Start)) (window_of a.files.window.now) a.files.calls.now l.number l.at l.entry (omega arith)))
