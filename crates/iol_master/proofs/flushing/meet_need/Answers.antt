use Rattle.std.proofs.Common.{rules}
use Rattle.iol_master.proofs.flushing.meet_need.Goals as goal

pub returns-in-Publish-clause-turned : goal.returns-in-Publish-clause-turned
returns-in-Publish-clause-turned g c = search rules
