use Rattle.std.proofs.Common.{◌≡◌, take}
use Rattle.iol_script.specs.Devices.{said_devices}
use Rattle.iol_commands.specs.Devices.{link_at}
use Rattle.iol_commands.proofs.devices.link_at.Given as goal

-- the visits of the devices so far are made
abbrev pub invariant-loop-device : goal.invariant-loop-device
invariant-loop-device l = l.visits.items ≡ (link_at l.port (said_devices (take l.device-index l.devices))).visits
