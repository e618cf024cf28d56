use Rattle.std.proofs.Common.{rules}
use Rattle.iol_script.proofs.script.Script.has_port.Goals as goal

pub returns : goal.returns
returns c = search rules
