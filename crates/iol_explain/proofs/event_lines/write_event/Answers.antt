use Rattle.std.proofs.Common.{sym, subst}
use Rattle.std.specs.Fmt.{WritesOnOk}
use Rattle.iol_engine.specs.Events.{event_of}
use Rattle.iol_engine.specs.declared.event.Event.{Event}
use Rattle.iol_explain.specs.EventLines.{event_lines}
use Rattle.iol_explain.proofs.event_lines.write_event.Goals as goal

pub returns-in-Page : goal.returns-in-Page
returns-in-Page g c =
    subst (λ (event : Event).
    WritesOnOk g.W.Write.write_str_gives c.args.f.now c.write_page.result (event_lines c.args.known (event_of event)) c.write_page.new.f)
    (sym c.in-Page.is) c.write_page.ensures

pub returns-in-Status : goal.returns-in-Status
returns-in-Status g c =
    subst (λ (event : Event).
    WritesOnOk g.W.Write.write_str_gives c.args.f.now c.write_status.result (event_lines c.args.known (event_of event))
    c.write_status.new.f)
    (sym c.in-Status.is) c.write_status.ensures
