use Rattle.iol_flush.specs.declared.stage.FlushStage.TheVariants.{Resting}
use Rattle.iol_master.proofs.Ends.{ends, never_midway}
use Rattle.iol_master.proofs.Since.{since_both}
use Rattle.iol_master.proofs.flushing.flush_all.Goals as goal

pub returns-in-Ended : goal.returns-in-Ended
returns-in-Ended g c =
    let disk = g.D.SectorDisk.disk in
    c.ending_of.ensures.ending c.args.charge
    (ends disk g.F.Name.front.start c.args.charge c.turn.new.flusher.stage c.turn.new.flusher.published c.end.result
    (since_both disk (Resting c.args.charge) c.loop.flusher.stage c.turn.new.flusher.stage c.loop.invariant c.in-Ended.ensures.since)
    c.in-Ended.ensures.ended c.end.ensures.end c.end.ensures.in_step)

pub ending_of-requires-clause-whole : goal.ending_of-requires-clause-whole
ending_of-requires-clause-whole g c lifetimes outlives =
    let disk = g.D.SectorDisk.disk in
    never_midway disk g.F.Name.front.start c.args.charge c.end.result
    (ends disk g.F.Name.front.start c.args.charge c.turn.new.flusher.stage c.turn.new.flusher.published c.end.result
    (since_both disk (Resting c.args.charge) c.loop.flusher.stage c.turn.new.flusher.stage c.loop.invariant c.in-Ended.ensures.since)
    c.in-Ended.ensures.ended c.end.ensures.end c.end.ensures.in_step)

pub loop-preserved : goal.loop-preserved
loop-preserved g c =
    let disk = g.D.SectorDisk.disk in
    since_both disk (Resting c.args.charge) c.loop.flusher.stage c.turn.new.flusher.stage c.loop.invariant c.turn.ensures.since
