use Rattle.std.proofs.Common.{ℕ, List, [], ◌∷◌, ap, ◌∙◌, subst}
use Rattle.arrayvec.specs.ArrayVec.{ArrayVec}
use Rattle.iol_link.specs.Link.{Exchange, Octets}
use Rattle.iol_port.specs.Heard.{IsFed}
use Rattle.iol_port.specs.declared.action.Input.TheVariants as input
use Rattle.iol_core.specs.Events as trace
use Rattle.iol_engine.specs.declared.event.Exchanged.{Exchanged}
use Rattle.iol_engine.proofs.port_step.exchange.Goals as goal

pub returns-in-Ok : goal.returns-in-Ok
returns-in-Ok g c =
    let l = g.L.DeviceLink in
    let sent = c.write_request-request.result.items in
    record {
      heard = input.Octets c.in-Ok.answer;
      octets = sent;
      shortest = c.write_request-request.ensures;
      fed = subst (λ (a : ArrayVec ℕ). IsFed c.args.machine.now (input.Octets a) c.feed.new.self) c.copy_of.ensures c.feed.ensures.fed;
      holds = c.feed.ensures.holds;
      comes = tt;
      hears = (
        subst (λ (os : List ℕ). l.steps c.args.link.now (Exchange os) (Octets c.in-Ok.answer.items) c.exchange.new.self)
            c.as_slice.ensures.value c.in-Ok.ensures.step,
        c.in-Ok.ensures.connection,
        ap (λ (e : Exchanged). trace.Exchange c.port-port.result c.connection-connection.result e.request.items e.answer.items ∷ [])
            c.put.ensures
            ∙ ap (λ (p : ℕ). trace.Exchange p c.connection-connection.result sent c.in-Ok.answer.items ∷ []) c.port-port.ensures
            ∙ ap (λ (n : ℕ). trace.Exchange c.args.machine.now.port n sent c.in-Ok.answer.items ∷ []) c.connection-connection.ensures,
      );
    }
