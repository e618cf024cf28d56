use Rattle.std.proofs.Common.{◌≡◌, Some, true, is_some, get_or, ap, sym, ◌∙◌}
use Rattle.iol_sim.specs.SimLink.{Sim, answering, with_present, after_answer}
use Rattle.iol_sim.proofs.SimLemmas.{answering-is, exchange-step}
use Rattle.iol_sim.proofs.sim_link.SimLinkDeviceLink.exchange.Goals as goal

pub returns-clause-step : goal.returns-clause-step
returns-clause-step c =
    let old = c.args.self.now in
    let visit = c.index_mut.result.now in
    let some : is_some (answering old) ≡ true = sym c.answering.ensures.found ∙ c.if-is_none.ensures in
    let at : visit ≡ get_or old.visits old.place visit =
    c.index_mut.ensures.value ∙ ap (λ (sim : Sim). get_or sim.visits sim.place visit) c.self.view_is in
    let is : answering old ≡ Some visit = answering-is old visit some at in
    let answered = c.exchange.ensures in
    exchange-step old _ visit c.args.request.now c.exchange.result.items answered.0 is answered.1
    (ap (with_present _) answered.2 ∙ ap (λ (sim : Sim). with_present sim (after_answer visit answered.0)) c.self.view_is)
