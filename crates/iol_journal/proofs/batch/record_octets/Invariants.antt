use Rattle.std.proofs.Common.{◌≡◌, ◌≤◌, ◌*◌, length, take}
use Rattle.iol_record.specs.declared.encode.TheConstants.{LARGEST_COMMAND_RECORD}
use Rattle.iol_layout.specs.Body.{records_of, values}
use Rattle.iol_journal.proofs.batch.record_octets.Given as goal

abbrev pub invariant-loop-command : goal.invariant-loop-command
invariant-loop-command l = record {
  counted : l.octets ≡ length (records_of (values (take l.command-index l.commands)));
  bound : l.octets ≤ LARGEST_COMMAND_RECORD * l.command-index;
}
