use Rattle.iol_port.proofs.Restoring.{a_ready_port_is_restored, a_locked_port_is_decided, an_empty_port_is_decided}
use Rattle.iol_port.proofs.laws.a_ready_port_has_its_set.Goals as goal

pub returns-clause-ready : goal.returns-clause-ready
returns-clause-ready c = a_ready_port_is_restored

pub returns-clause-locked : goal.returns-clause-locked
returns-clause-locked c = a_locked_port_is_decided

pub returns-clause-empty : goal.returns-clause-empty
returns-clause-empty c = an_empty_port_is_decided
