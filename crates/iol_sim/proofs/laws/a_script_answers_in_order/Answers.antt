use Rattle.iol_sim.proofs.Scripts.{answers_in_order}
use Rattle.iol_sim.proofs.laws.a_script_answers_in_order.Goals as goal

pub returns : goal.returns
returns c = λ first last made requests run within asks fit.
    answers_in_order first.left first.requests first.page first.events first.connection last made requests within run asks fit
