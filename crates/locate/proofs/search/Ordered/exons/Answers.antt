use Rattle.transcript.proofs.OnParts.{on}
use Rattle.locate.proofs.LentTranscript.{ready}
use Rattle.locate.proofs.search.Ordered.exons.Goals as goal

pub invariant_of-result : goal.invariant_of-result
invariant_of-result c = record { ready = on c.args.admitted.transcript.now ready c.args.admitted.admitted }
