use mathlib.Core.Path.{◌∙◌, ap}
use native.Mathlib.Omega.{arith}
use Rattle.std.specs.Prelude.{Ok}
use Rattle.transcript.specs.Transcript.{transcript_of}
use Rattle.transcript.specs.Orient.{oriented}
use Rattle.transcript.proofs.Asking.{base_low}
use Rattle.locate.specs.Place.{locate}
use Rattle.answers.proofs.Positions.{is_15, is_14, is_at}
use Rattle.answers.proofs.position.locate_position.Goals as goal

pub returns-then-p-ge-QUERY_LIMIT : goal.returns-then-p-ge-QUERY_LIMIT
returns-then-p-ge-QUERY_LIMIT c = is_15 c.args.ranges (transcript_of c.args.indexed.admitted.transcript.now) c.args.chromosome c.args.p c.args.indexed.admitted.admitted c.if-p-ge-QUERY_LIMIT.true

pub returns-then-chromosome-indexed : goal.returns-then-chromosome-indexed
returns-then-chromosome-indexed c =
    is_14 c.args.ranges (transcript_of c.args.indexed.admitted.transcript.now) c.args.chromosome c.args.p c.args.indexed.admitted.admitted c.if-p-ge-QUERY_LIMIT.false c.if-chromosome-indexed.true

pub place-requires : goal.place-requires
place-requires c = rw c.base_of-q.ensures (base_low c.args.indexed.admitted.transcript.now.model.strand c.args.p (omega arith))

pub returns : goal.returns
returns c =
    let t = transcript_of c.args.indexed.admitted.transcript.now in
    ap Ok (c.place.ensures ∙ ap (locate c.args.ranges (oriented t)) c.base_of-q.ensures)
    ∙ is_at c.args.ranges t c.args.chromosome c.args.p c.args.indexed.admitted.admitted c.if-p-ge-QUERY_LIMIT.false c.if-chromosome-indexed.false
