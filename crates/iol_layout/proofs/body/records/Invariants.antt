use Rattle.std.proofs.Common.{◌≡◌, take}
use Rattle.iol_layout.specs.Body.{records_of, values}
use Rattle.iol_layout.proofs.Bodies.{Encodes}
use Rattle.iol_layout.proofs.body.records.Given as goal

abbrev pub invariant-loop-command : goal.invariant-loop-command
invariant-loop-command l = record {
  spelled : l.octets.items ≡ records_of (values (take l.command-index l.commands));
  encodes : Encodes l.octets.items (values (take l.command-index l.commands));
}
