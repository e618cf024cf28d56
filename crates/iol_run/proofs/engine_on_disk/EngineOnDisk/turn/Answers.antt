use Rattle.std.proofs.Common.{rules}
use Rattle.iol_run.proofs.engine_on_disk.EngineOnDisk.turn.Goals as goal

pub returns-in-Batch-clause-turn : goal.returns-in-Batch-clause-turn
returns-in-Batch-clause-turn g c = search rules

pub returns-in-BatchOrDisk-clause-turn : goal.returns-in-BatchOrDisk-clause-turn
returns-in-BatchOrDisk-clause-turn g c = search rules
