use Rattle.iol_sim.proofs.SimRuns.{step-left}
use Rattle.iol_sim.proofs.laws.a_call_steps_one_device.Goals as goal

pub returns : goal.returns
returns c = λ old new call answer step. (step-left old new call answer step).others
