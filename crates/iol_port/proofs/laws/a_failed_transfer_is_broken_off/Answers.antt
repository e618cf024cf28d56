use Rattle.iol_port.proofs.BreakingOff.{failed_breaks, stopped_breaks, changed_breaks, unsure_breaks}
use Rattle.iol_port.proofs.laws.a_failed_transfer_is_broken_off.Goals as goal

pub returns-clause-returns : goal.returns-clause-returns
returns-clause-returns c = failed_breaks

pub returns-clause-stopped : goal.returns-clause-stopped
returns-clause-stopped c = stopped_breaks

pub returns-clause-changed : goal.returns-clause-changed
returns-clause-changed c = changed_breaks

pub returns-clause-unsure : goal.returns-clause-unsure
returns-clause-unsure c = unsure_breaks
