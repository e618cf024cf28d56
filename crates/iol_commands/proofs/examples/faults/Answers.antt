use Rattle.std.proofs.Common.{refl}
use Rattle.std.specs.Fmt.{digits}
use Rattle.iol_commands.proofs.examples.faults.Goals as goal

pub returns : goal.returns
unfolding digits
returns c = record { damaged = refl; of_a_disk = refl; others = refl; of_a_running_master = refl }
