use Rattle.std.proofs.Common.{subst, sym}
use Rattle.iol_port.specs.Laws.{held_by}
use Rattle.iol_port.specs.Permits.{HasOut}
use Rattle.iol_port.proofs.Holding.{link_keeps}
use Rattle.iol_port.proofs.Leading.{led_is}
use Rattle.iol_port.proofs.Releasing.{core_keeps, ended_out}
use Rattle.iol_port.proofs.laws.a_permit_is_held_or_spent.Goals as goal

pub returns-clause-link : goal.returns-clause-link
returns-clause-link c =
    λ port history old new wants heard led link happens. link_keeps old new wants heard (led_is port history old led).hand link happens

pub returns-clause-calls : goal.returns-clause-calls
returns-clause-calls c = λ start before after port history old new call heard is led out happens replies.
    let one = led_is port history old led in
    subst (λ p. HasOut after p (held_by new.stage)) one.port_is
    (core_keeps start before after old new call heard is one.hand
    (subst (λ p. HasOut before p (held_by old.stage)) (sym one.port_is) out) happens replies)

pub returns-clause-end : goal.returns-clause-end
returns-clause-end c = ended_out
