use Rattle.std.proofs.Common.{sym, subst}
use Rattle.iol_flush.specs.Flushing.{KeepsRun, IsSound}
use Rattle.iol_flush.specs.Steps.{IsDiskStep}
use Rattle.iol_flush.proofs.disk_call.make_call.Goals as goal

-- a batch was given
pub returns-in-Given-clause-step : goal.returns-in-Given-clause-step
returns-in-Given-clause-step g c =
    subst (λ stage. IsDiskStep g.D.SectorDisk.disk stage c.begin.result.0 c.begin.result.1) (sym c.in-Given.is) c.begin.ensures.step

pub returns-in-Given-clause-run : goal.returns-in-Given-clause-run
returns-in-Given-clause-run g c =
    subst (λ stage. KeepsRun g.D.SectorDisk.disk stage c.begin.result.0) (sym c.in-Given.is) c.begin.ensures.run

pub returns-in-Given-clause-sound : goal.returns-in-Given-clause-sound
returns-in-Given-clause-sound g c =
    subst (λ stage. IsSound g.D.SectorDisk.disk stage → IsSound g.D.SectorDisk.disk c.begin.result.0) (sym c.in-Given.is)
    c.begin.ensures.sound

-- a checkpoint is being written, and a batch waits for it
pub returns-in-Checkpointing-clause-step : goal.returns-in-Checkpointing-clause-step
returns-in-Checkpointing-clause-step g c =
    subst (λ stage. IsDiskStep g.D.SectorDisk.disk stage c.checkpoint.result.0 c.checkpoint.result.1)
    (sym c.in-Checkpointing.is) c.checkpoint.ensures.step

pub returns-in-Checkpointing-clause-run : goal.returns-in-Checkpointing-clause-run
returns-in-Checkpointing-clause-run g c =
    subst (λ stage. KeepsRun g.D.SectorDisk.disk stage c.checkpoint.result.0) (sym c.in-Checkpointing.is) c.checkpoint.ensures.run

pub returns-in-Checkpointing-clause-sound : goal.returns-in-Checkpointing-clause-sound
returns-in-Checkpointing-clause-sound g c =
    subst (λ stage. IsSound g.D.SectorDisk.disk stage → IsSound g.D.SectorDisk.disk c.checkpoint.result.0) (sym c.in-Checkpointing.is)
    c.checkpoint.ensures.sound

-- a batch is being written
pub returns-in-Writing-clause-step : goal.returns-in-Writing-clause-step
returns-in-Writing-clause-step g c =
    subst (λ stage. IsDiskStep g.D.SectorDisk.disk stage c.write.result.0 c.write.result.1) (sym c.in-Writing.is) c.write.ensures.step

pub returns-in-Writing-clause-run : goal.returns-in-Writing-clause-run
returns-in-Writing-clause-run g c =
    subst (λ stage. KeepsRun g.D.SectorDisk.disk stage c.write.result.0) (sym c.in-Writing.is) c.write.ensures.run

pub returns-in-Writing-clause-sound : goal.returns-in-Writing-clause-sound
returns-in-Writing-clause-sound g c =
    subst (λ stage. IsSound g.D.SectorDisk.disk stage → IsSound g.D.SectorDisk.disk c.write.result.0) (sym c.in-Writing.is)
    c.write.ensures.sound

-- a checkpoint is due, and no batch was given
pub returns-in-Resting-clause-step : goal.returns-in-Resting-clause-step
returns-in-Resting-clause-step g c =
    subst (λ stage. IsDiskStep g.D.SectorDisk.disk stage c.go_on.result.0 c.go_on.result.1) (sym c.in-Resting.is) c.go_on.ensures.step

pub returns-in-Resting-clause-run : goal.returns-in-Resting-clause-run
returns-in-Resting-clause-run g c =
    subst (λ stage. KeepsRun g.D.SectorDisk.disk stage c.go_on.result.0) (sym c.in-Resting.is) c.go_on.ensures.run

pub returns-in-Resting-clause-sound : goal.returns-in-Resting-clause-sound
returns-in-Resting-clause-sound g c =
    subst (λ stage. IsSound g.D.SectorDisk.disk stage → IsSound g.D.SectorDisk.disk c.go_on.result.0) (sym c.in-Resting.is)
    c.go_on.ensures.sound

-- a checkpoint that cannot be paused is being written
pub returns-in-Opening-clause-step : goal.returns-in-Opening-clause-step
returns-in-Opening-clause-step g c =
    subst (λ stage. IsDiskStep g.D.SectorDisk.disk stage c.advance.result.0 c.advance.result.1) (sym c.in-Opening.is) c.advance.ensures.step

pub returns-in-Opening-clause-run : goal.returns-in-Opening-clause-run
returns-in-Opening-clause-run g c =
    subst (λ stage. KeepsRun g.D.SectorDisk.disk stage c.advance.result.0) (sym c.in-Opening.is) c.advance.ensures.run

pub returns-in-Opening-clause-sound : goal.returns-in-Opening-clause-sound
returns-in-Opening-clause-sound g c =
    subst (λ stage. IsSound g.D.SectorDisk.disk stage → IsSound g.D.SectorDisk.disk c.advance.result.0) (sym c.in-Opening.is)
    c.advance.ensures.sound
