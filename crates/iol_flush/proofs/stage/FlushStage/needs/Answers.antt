use Rattle.std.proofs.Common.{rules}
use Rattle.iol_flush.proofs.stage.FlushStage.needs.Goals as goal

pub returns-in-Opening : goal.returns-in-Opening
returns-in-Opening g c = search rules

pub returns-in-Publishing : goal.returns-in-Publishing
returns-in-Publishing g c = search rules
