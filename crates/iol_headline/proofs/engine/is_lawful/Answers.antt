use Rattle.iol_headline.proofs.Engines.{engine_lawful}
use Rattle.iol_headline.proofs.Lists.{engine_list}
use Rattle.iol_headline.proofs.engine.is_lawful.Goals as goal

pub returns-clause-lawful : goal.returns-clause-lawful
returns-clause-lawful g c = engine_lawful g.F.Name.front.start c.args.engine.now c.is_sound.ensures

pub returns-clause-list : goal.returns-clause-list
returns-clause-list g c = engine_list g.F.Name.front.start c.args.engine.now c.is_sound.ensures
