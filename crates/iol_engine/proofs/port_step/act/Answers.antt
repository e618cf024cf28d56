use Rattle.std.proofs.Common.{[], ◌∷◌, sym, subst}
use Rattle.iol_port.specs.Heard.{FitsReply}
use Rattle.iol_port.specs.Stage.{PortValue}
use Rattle.iol_port.specs.Calls.{call_of}
use Rattle.iol_engine.specs.Events.{event_of, told_of}
use Rattle.iol_engine.specs.PortSteps.{HasPage, HasReply}
use Rattle.iol_engine.proofs.PortSteps.{reply_fits, page_acts, reply_acts, ready_again}
use Rattle.iol_engine.proofs.port_step.act.Goals as goal

pub ask-requires-clause-fits : goal.ask-requires-clause-fits
ask-requires-clause-fits g c lifetimes outlives heard is =
    subst (λ (v : PortValue). FitsReply v.stage heard) (sym c.action.ensures.after)
    (reply_fits c.args.machine.now (call_of c.in-Ask.call) c.in-Ask.ensures.wanted c.requires.ready heard is)

pub returns-in-ReadPage-clause-ready : goal.returns-in-ReadPage-clause-ready
returns-in-ReadPage-clause-ready g c =
    let l = g.L.DeviceLink in
    let core = c.args.core.now in
    let told = event_of c.read_page.result in
    ready_again l.number l.steps c.args.machine.now c.read_page.new.machine c.args.link.now c.read_page.new.link core core (told ∷ [])
    c.requires.ready
    (page_acts l.number l.steps c.args.machine.now c.read_page.new.machine c.args.link.now c.read_page.new.link core told
    c.in-ReadPage.ensures.wanted
    (subst (λ (v : PortValue). HasPage l.number l.steps v c.read_page.new.machine c.args.link.now c.read_page.new.link told)
    c.action.ensures.after c.read_page.ensures))

pub returns-in-Ask-clause-acts : goal.returns-in-Ask-clause-acts
returns-in-Ask-clause-acts g c =
    let l = g.L.DeviceLink in
    reply_acts l.number l.steps c.args.machine.now c.ask.new.machine (call_of c.in-Ask.call) c.args.link.now c.args.core.now
    c.ask.new.core (told_of c.ask.result)
    c.in-Ask.ensures.wanted
    (subst (λ (v : PortValue).
    HasReply (call_of c.in-Ask.call) v c.ask.new.machine c.args.core.now c.ask.new.core (told_of c.ask.result))
    c.action.ensures.after c.ask.ensures)

pub returns-in-Ask-clause-ready : goal.returns-in-Ask-clause-ready
returns-in-Ask-clause-ready g c =
    let l = g.L.DeviceLink in
    ready_again l.number l.steps c.args.machine.now c.ask.new.machine c.args.link.now c.args.link.now c.args.core.now
    c.ask.new.core (told_of c.ask.result)
    c.requires.ready (returns-in-Ask-clause-acts g c)
