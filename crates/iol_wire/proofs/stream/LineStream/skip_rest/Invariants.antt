use Rattle.std.proofs.Common.{◌≡◌, List, ℕ, length}
use Rattle.iol_wire.specs.declared.transport.Position.TheVariants.{WithinLine}
use Rattle.iol_wire.specs.Hearing.{HasNoFeed, received}
use Rattle.iol_wire.specs.Transport.{Run}
use Rattle.iol_wire.proofs.stream.LineStream.skip_rest.Given as goal

abbrev pub invariant-loop : goal.invariant-loop
invariant-loop g l = record {
  began : l.fn.self.position ≡ WithinLine;
  within : l.self.position ≡ WithinLine;
  dropped : (dropped : List ℕ) × HasNoFeed dropped × (length dropped ≡ l.counter)
      × Run g.T.Transport.moves l.fn.self.transport (received dropped) l.self.transport;
}
