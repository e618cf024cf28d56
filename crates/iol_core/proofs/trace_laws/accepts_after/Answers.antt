use Rattle.iol_core.proofs.Words.{accepted-append}
use Rattle.iol_core.proofs.trace_laws.accepts_after.Goals as goal

pub returns : goal.returns
returns c = accepted-append
