use Rattle.iol_core.proofs.CrashPrefix.{crash_prefix}
use Rattle.iol_core.proofs.trace_laws.leaves_a_prefix.Goals as goal

pub returns : goal.returns
returns c = crash_prefix
