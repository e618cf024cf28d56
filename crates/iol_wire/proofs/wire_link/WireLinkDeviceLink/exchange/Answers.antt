use Rattle.std.proofs.Common.{ap, sym, ◌∙◌}
use Rattle.iol_wire.specs.Requests.{Isdu}
use Rattle.std.specs.Option.{option_map}
use Rattle.iol_wire.proofs.StepLemmas.{step_octets, step_lost}
use Rattle.iol_wire.proofs.wire_link.WireLinkDeviceLink.exchange.Goals as goal

pub returns-in-Some-clause-step : goal.returns-in-Some-clause-step
returns-in-Some-clause-step g c =
    let asked = c.ask.ensures.step in
    let answer = sym (c.isdu_in.ensures c.args.request.now) ∙ ap (option_map (λ octets. octets.items)) c.in-Some.is in
    step_octets g.T.Transport.moves c.args.self.now c.ask.new.self c.ask.new.self (Isdu c.args.request.now) asked.0
    c.ask.result c.in-Some.octets.items c.if-self.false asked.1 asked.2 answer

pub returns-in-None-clause-step : goal.returns-in-None-clause-step
returns-in-None-clause-step g c =
    let asked = c.ask.ensures.step in
    let no_answer = sym (c.isdu_in.ensures c.args.request.now) ∙ ap (option_map (λ octets. octets.items)) c.in-None.is in
    step_lost g.T.Transport.moves c.args.self.now c.ask.new.self c.lose.new.self (Isdu c.args.request.now) asked.0
    c.ask.result c.if-self.false asked.1 asked.2 no_answer c.lose.ensures.wire c.lose.ensures.transport
