use Rattle.std.proofs.Common.{refl}
use Rattle.iol_layout.specs.Octets.{padded}
use Rattle.iol_journal.proofs.checkpoint_examples.a_checkpoint.Goals as goal

pub returns : goal.returns
unfolding padded
returns c = record { older = refl; closed = refl; migration = refl; twelve = refl }
