use Rattle.std.proofs.Common.{rules}
use Rattle.iol_port.proofs.decision.decide.Goals as goal

pub returns-then-stored-checksum : goal.returns-then-stored-checksum
returns-then-stored-checksum c = search rules
