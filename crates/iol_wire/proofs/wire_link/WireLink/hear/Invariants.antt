use Rattle.std.proofs.Common.{◌≡◌, List, ℕ, length}
use Rattle.iol_wire.specs.declared.transport.Position.TheVariants.{LineStart}
use Rattle.iol_wire.specs.Events.{kept}
use Rattle.iol_wire.specs.Hearing.{Passing, received}
use Rattle.iol_wire.specs.Transport.{Run}
use Rattle.iol_wire.proofs.wire_link.WireLink.hear.Given as goal

abbrev pub invariant-loop : goal.invariant-loop
invariant-loop g l = record {
  number : l.self.number ≡ l.fn.self.number;
  connection : l.self.connection ≡ l.fn.self.connection;
  at_start : l.self.stream.position ≡ LineStart;
  heard : (heard : List ℕ) × (codes : List ℕ) × (passing : Passing l.number l.fn.self.stream.position heard codes)
      × (length passing.lines ≡ l.counter)
      × Run g.T.Transport.moves l.fn.self.stream.transport (received heard) l.self.stream.transport
      × (l.self.events.items ≡ kept l.fn.self.events.items codes);
}
