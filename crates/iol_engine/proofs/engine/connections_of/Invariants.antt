use Rattle.std.proofs.Common.{◌≡◌, map, take}
use Rattle.iol_engine.proofs.engine.connections_of.Given as goal

abbrev pub invariant-loop-link : goal.invariant-loop-link
invariant-loop-link g l = l.connections.items ≡ map g.L.DeviceLink.number (take l.link-index l.links)
