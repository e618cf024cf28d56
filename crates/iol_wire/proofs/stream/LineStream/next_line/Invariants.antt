use Rattle.std.proofs.Common.{◌≡◌, ◌≤◌, length}
use Rattle.iol_wire.specs.declared.reading.TheConstants.{LINE_OCTETS}
use Rattle.iol_wire.specs.Hearing.{HasNoFeed, position_after, received}
use Rattle.iol_wire.specs.Transport.{Run}
use Rattle.iol_wire.proofs.stream.LineStream.next_line.Given as goal

abbrev pub invariant-loop : goal.invariant-loop
invariant-loop g l = record {
  no_feed : HasNoFeed l.line.items;
  count : length l.line.items ≡ l.counter;
  few : length l.line.items ≤ LINE_OCTETS;
  position : l.self.position ≡ position_after l.line.items;
  run : Run g.T.Transport.moves l.fn.self.transport (received l.line.items) l.self.transport;
}
