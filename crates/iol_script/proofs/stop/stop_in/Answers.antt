use Rattle.std.proofs.Common.{rules}
use Rattle.iol_script.proofs.stop.stop_in.Goals as goal

pub returns-in-zero : goal.returns-in-zero
returns-in-zero c = search rules
