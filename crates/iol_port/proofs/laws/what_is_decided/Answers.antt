use Rattle.iol_port.specs.declared.decision.Decision.TheVariants as decision
use Rattle.iol_port.proofs.Deciding.{decided_as}
use Rattle.iol_port.proofs.laws.what_is_decided.Goals as goal

pub returns-clause-upload : goal.returns-clause-upload
returns-clause-upload c = decided_as decision.Upload

pub returns-clause-download : goal.returns-clause-download
returns-clause-download c = decided_as decision.Download

pub returns-clause-ready : goal.returns-clause-ready
returns-clause-ready c = decided_as decision.Ready

pub returns-clause-locked : goal.returns-clause-locked
returns-clause-locked c = decided_as decision.ReadyLocked

pub returns-clause-empty : goal.returns-clause-empty
returns-clause-empty c = decided_as decision.ReadyEmpty
