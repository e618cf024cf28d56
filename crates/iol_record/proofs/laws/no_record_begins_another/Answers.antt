use Rattle.iol_record.proofs.Decoders.{begins_none}
use Rattle.iol_record.proofs.CommandReaders.{command_reads}
use Rattle.iol_record.proofs.PortReaders.{port_record_reads}
use Rattle.iol_record.proofs.laws.no_record_begins_another.Goals as goal

pub returns-clause-command : goal.returns-clause-command
returns-clause-command c = λ version front rest one two first second.
    begins_none (command_reads version) front rest one two first.spelling (first.in_range, first.spelled)
    second.spelling (second.in_range, second.spelled)

pub returns-clause-port : goal.returns-clause-port
returns-clause-port c = λ version front rest one two first second.
    begins_none (port_record_reads version) front rest one two first.spelling (first.in_range, first.spelled)
    second.spelling (second.in_range, second.spelled)
