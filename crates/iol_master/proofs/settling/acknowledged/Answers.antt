use Rattle.iol_core.proofs.Standing.{stands_later}
use Rattle.iol_master.proofs.SeenLater.{seen_later}
use Rattle.iol_master.proofs.settling.acknowledged.Goals as goal

pub returns-clause-lawful : goal.returns-clause-lawful
returns-clause-lawful g c =
    seen_later g.F.Name.front.start c.meet.result c.meet.new.self.engine.core.seen c.meet.new.pass c.meet.new.self.engine.core.durable
    c.meet.ensures.stands c.meet.ensures.met c.meet.ensures.lawful

pub returns-clause-number : goal.returns-clause-number
returns-clause-number g c =
    (stands_later g.F.Name.front.start c.meet.new.self.engine.core.seen c.meet.new.pass c.meet.result c.meet.new.self.engine.core.durable
    c.meet.ensures.stands c.meet.ensures.met).within
