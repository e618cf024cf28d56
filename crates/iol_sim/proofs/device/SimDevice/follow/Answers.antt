use Rattle.std.proofs.Common.{rules}
use Rattle.iol_sim.proofs.device.SimDevice.follow.Goals as goal

pub returns-in-UploadEnd : goal.returns-in-UploadEnd
returns-in-UploadEnd c = search rules
