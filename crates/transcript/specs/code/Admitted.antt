-- What is admitted, as the transcript that it lends.
use Rattle.std.specs.Prelude.{Result, Ok, Err}
use Rattle.common.specs.declared.refusal.Refusal.{Refusal}
use Rattle.transcript.specs.declared.Transcript.{Transcript as Lent}
use Rattle.transcript.specs.declared.admission.Admitted.{Admitted}

abbrev pub lent_by : Result Admitted Refusal → Result Lent Refusal
lent_by (Ok a) = Ok a.transcript.now
lent_by (Err r) = Err r
