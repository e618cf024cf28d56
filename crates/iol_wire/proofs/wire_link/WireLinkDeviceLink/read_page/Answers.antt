use Rattle.std.proofs.Common.{sym, ◌∙◌}
use Rattle.iol_wire.specs.Requests.{Page}
use Rattle.iol_wire.proofs.StepLemmas.{step_octets, step_lost}
use Rattle.iol_wire.proofs.wire_link.WireLinkDeviceLink.read_page.Goals as goal

pub returns-in-Some-clause-step : goal.returns-in-Some-clause-step
returns-in-Some-clause-step g c =
    let asked = c.ask.ensures.step in
    step_octets g.T.Transport.moves c.args.self.now c.ask.new.self c.ask.new.self Page asked.0 c.ask.result c.in-Some.page
    c.if-self.false asked.1 asked.2 (sym c.page_in.ensures ∙ c.in-Some.is)

pub returns-in-None-clause-step : goal.returns-in-None-clause-step
returns-in-None-clause-step g c =
    let asked = c.ask.ensures.step in
    step_lost g.T.Transport.moves c.args.self.now c.ask.new.self c.lose.new.self Page asked.0 c.ask.result c.if-self.false
    asked.1 asked.2 (sym c.page_in.ensures ∙ c.in-None.is) c.lose.ensures.wire c.lose.ensures.transport
