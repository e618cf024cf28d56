use Rattle.iol_sim.proofs.SimRuns.{run-stays}
use Rattle.iol_sim.proofs.laws.one_device_answers_on_a_connection.Goals as goal

pub returns : goal.returns
returns c = run-stays
