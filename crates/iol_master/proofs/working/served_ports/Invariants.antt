use Rattle.std.proofs.Common.{◌≡◌, ℕ, ◌+◌, ◌<◌, ◌++◌, length, map, min, Some, slice_get}
use Rattle.iol_types.specs.declared.port_id.TheConstants.{PORTS}
use Rattle.iol_master.specs.declared.working.ServedPort.{ServedPort}
use Rattle.iol_master.proofs.working.served_ports.Given as goal

-- the links so far are served, and the others are left
abbrev pub invariant-loop-link : goal.invariant-loop-link
invariant-loop-link g l = record {
  number : l.number ≡ min (length l.served.items) PORTS;
  over : map (λ (its : ServedPort g.row.L.Denot g.row.F.Denot). its.link) l.served.items ++ l.link-iterator.rest.items ≡ l.fn.links.items;
  port : (k : ℕ) (its : ServedPort g.row.L.Denot g.row.F.Denot) → k < PORTS → slice_get l.served.items k ≡ Some its → its.port ≡ k + 1;
}
