use Rattle.iol_flush.proofs.Keeping.{goes_from_rest, keeps_rested, rests_still}
use Rattle.iol_flush.proofs.Steps.{gone_on, half_used}
use Rattle.iol_flush.proofs.disk_call.go_on.Goals as goal

pub checkpoint-requires : goal.checkpoint-requires
checkpoint-requires g c =
    half_used c.args.journal c.is_half_used-half.result c.is_half_used-half.ensures.half c.is_half_used-half.ensures.used c.requires.due

pub returns-in-Ok-clause-step : goal.returns-in-Ok-clause-step
returns-in-Ok-clause-step g c =
    gone_on g.D.SectorDisk.disk c.args.journal c.in-Ok.checkpointing c.advance.result.0 c.advance.result.1 c.requires.due
    c.in-Ok.ensures.begun c.advance.ensures.step

pub returns-in-Ok-clause-run : goal.returns-in-Ok-clause-run
returns-in-Ok-clause-run g c =
    goes_from_rest g.D.SectorDisk.disk c.args.journal c.in-Ok.checkpointing c.advance.result.0 c.in-Ok.ensures.run c.advance.ensures.run

pub returns-in-Ok-clause-sound : goal.returns-in-Ok-clause-sound
returns-in-Ok-clause-sound g c = λ rest. c.advance.ensures.sound (c.in-Ok.ensures.underway rest.0 rest.1)

pub returns-in-Err-clause-run : goal.returns-in-Err-clause-run
returns-in-Err-clause-run g c = keeps_rested g.D.SectorDisk.disk c.args.journal c.in-Err.fault.journal c.in-Err.ensures.back

pub returns-in-Err-clause-sound : goal.returns-in-Err-clause-sound
returns-in-Err-clause-sound g c = λ rest.
    rests_still g.D.SectorDisk.disk c.args.journal c.in-Err.fault.journal c.in-Err.ensures.back rest
