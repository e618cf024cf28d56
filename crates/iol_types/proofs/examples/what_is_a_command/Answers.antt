use Rattle.std.proofs.Common.{refl, arith}
use Rattle.iol_types.proofs.ExampleSet.{example_is_set}
use Rattle.iol_types.proofs.examples.what_is_a_command.Goals as goal

pub returns-clause-port : goal.returns-clause-port
returns-clause-port c = record {
  config = record { vendor = omega arith; device = omega arith; label = refl };
  revision = omega arith;
  stored = record { set = example_is_set; recorded = record { vendor = omega arith; device = omega arith; label = refl } };
  previous = tt;
  stands = refl;
}
