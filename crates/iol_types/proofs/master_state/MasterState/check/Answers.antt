use Rattle.std.proofs.Common.{rules}
use Rattle.iol_types.proofs.master_state.MasterState.check.Goals as goal

pub returns-in-None-fault-clause-passes : goal.returns-in-None-fault-clause-passes
returns-in-None-fault-clause-passes c = search rules
