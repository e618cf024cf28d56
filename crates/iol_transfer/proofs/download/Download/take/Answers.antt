use Rattle.std.proofs.Common.{rules}
use Rattle.iol_transfer.proofs.download.Download.take.Goals as goal

pub returns-in-WriteFault : goal.returns-in-WriteFault
returns-in-WriteFault c = search rules
