use Rattle.std.proofs.Common.{◌≡◌, take}
use Rattle.iol_types.proofs.master_state.MasterState.copy.Given as goal

-- the ports that are copied so far
abbrev pub invariant-loop-port : goal.invariant-loop-port
invariant-loop-port l = l.ports.items ≡ take l.port-index l.port-items
