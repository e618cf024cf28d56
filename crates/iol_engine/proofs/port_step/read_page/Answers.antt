use Rattle.std.proofs.Common.{ℕ, [], ◌∷◌, ap, ◌∙◌}
use Rattle.iol_port.specs.declared.action.Input.TheVariants as input
use Rattle.iol_core.specs.Events as trace
use Rattle.iol_engine.proofs.port_step.read_page.Goals as goal

pub returns-in-Ok : goal.returns-in-Ok
returns-in-Ok g c = record {
  heard = input.Page c.connection-connection.result c.in-Ok.octets;
  fed = c.feed.ensures.fed;
  holds = c.feed.ensures.holds;
  comes = tt;
  hears = (
    c.connection-connection.ensures,
    c.in-Ok.ensures.step,
    c.in-Ok.ensures.connection,
    ap (λ (p : ℕ). trace.Page p c.connection-connection.result c.in-Ok.octets ∷ []) c.port-port.ensures
        ∙ ap (λ (n : ℕ). trace.Page c.args.machine.now.port n c.in-Ok.octets ∷ []) c.connection-connection.ensures,
  );
}
