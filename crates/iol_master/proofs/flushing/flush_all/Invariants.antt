use Rattle.iol_flush.specs.declared.stage.FlushStage.TheVariants.{Resting}
use Rattle.iol_master.specs.Since.{IsSince}
use Rattle.iol_master.proofs.flushing.flush_all.Given as goal

-- the flusher has continued from its journal at rest
abbrev pub invariant-loop : goal.invariant-loop
invariant-loop g l = IsSince g.D.SectorDisk.disk (Resting l.fn.charge) l.flusher.stage
