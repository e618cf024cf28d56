use Rattle.std.proofs.Common.{◌≡◌, vec_len}
use Rattle.iol_script.specs.Devices.{said_devices}
use Rattle.iol_commands.specs.Devices.{links_of}
use Rattle.iol_commands.proofs.devices.links_of.Given as goal

-- the links of the ports so far are made
abbrev pub invariant-loop-place : goal.invariant-loop-place
invariant-loop-place l = record {
  links : l.links.items ≡ links_of l.place (said_devices l.devices);
  count : vec_len l.links ≡ l.place;
}
