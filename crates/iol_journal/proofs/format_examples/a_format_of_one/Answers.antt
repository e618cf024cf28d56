use Rattle.std.proofs.Common.{refl}
use Rattle.iol_layout.specs.Octets.{padded}
use Rattle.iol_journal.proofs.format_examples.a_format_of_one.Goals as goal

pub returns : goal.returns
unfolding padded
returns c = refl
