use Rattle.std.proofs.Common.{inl}
use Rattle.iol_master.proofs.Since.{since_step}
use Rattle.iol_master.proofs.flushing.call_disk.Goals as goal

pub disk_step-requires-after_bounds : goal.disk_step-requires-after_bounds
disk_step-requires-after_bounds g c lifetimes outlives = inl c.requires

pub returns-in-Ok-clause-since : goal.returns-in-Ok-clause-since
returns-in-Ok-clause-since g c =
    since_step g.D.SectorDisk.disk c.args.flusher.now.stage c.disk_step.new.self.stage c.disk_step.result c.disk_step.ensures.step
    c.disk_step.ensures.sound

pub returns-in-Err-Disk-clause-since : goal.returns-in-Err-Disk-clause-since
returns-in-Err-Disk-clause-since g c =
    since_step g.D.SectorDisk.disk c.args.flusher.now.stage c.disk_step.new.self.stage c.disk_step.result c.disk_step.ensures.step
    c.disk_step.ensures.sound

pub returns-in-Err-Stopped-clause-since : goal.returns-in-Err-Stopped-clause-since
returns-in-Err-Stopped-clause-since g c =
    since_step g.D.SectorDisk.disk c.args.flusher.now.stage c.disk_step.new.self.stage c.disk_step.result c.disk_step.ensures.step
    c.disk_step.ensures.sound

pub returns-in-Err-Memory-clause-since : goal.returns-in-Err-Memory-clause-since
returns-in-Err-Memory-clause-since g c =
    since_step g.D.SectorDisk.disk c.args.flusher.now.stage c.disk_step.new.self.stage c.disk_step.result c.disk_step.ensures.step
    c.disk_step.ensures.sound

pub returns-in-Err-Misfit-clause-since : goal.returns-in-Err-Misfit-clause-since
returns-in-Err-Misfit-clause-since g c =
    since_step g.D.SectorDisk.disk c.args.flusher.now.stage c.disk_step.new.self.stage c.disk_step.result c.disk_step.ensures.step
    c.disk_step.ensures.sound
