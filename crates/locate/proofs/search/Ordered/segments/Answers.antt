use Rattle.transcript.proofs.OnParts.{on}
use Rattle.locate.proofs.LentTranscript.{segments_ready}
use Rattle.locate.proofs.search.Ordered.segments.Goals as goal

pub invariant_of-result : goal.invariant_of-result
invariant_of-result c = record { ready = on c.args.admitted.transcript.now segments_ready c.args.admitted.admitted }
