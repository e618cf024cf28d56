use Rattle.std.proofs.Common.{◌≡◌, take}
use Rattle.iol_script.specs.Parameters.{entries_of}
use Rattle.iol_commands.proofs.devices.with_parameters.Given as goal

-- the device has the parameters so far
abbrev pub invariant-loop-parameter : goal.invariant-loop-parameter
invariant-loop-parameter l = l.device ≡ record l.fn.bare { parameters = entries_of (take l.parameter-index l.parameters) }
