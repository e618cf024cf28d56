use Rattle.std.proofs.Common.{rules}
use Rattle.iol_script.proofs.device.Device.without_parameters.Goals as goal

pub returns : goal.returns
returns c = search rules
