use Rattle.std.proofs.Common.{refl}
use Rattle.std.specs.Prelude.{None}
use Rattle.iol_headline.proofs.ExampleLaws.{flagged_examined}
use Rattle.iol_headline.proofs.examples.a_backup_begins.Goals as goal
use Rattle.iol_headline.specs.Examples.{example_config}

pub returns-clause-work : goal.returns-clause-work
returns-clause-work c = record {
  kept = record { config = example_config; revision = 1; stored = None; previous = None };
  there = refl;
  config = refl;
  revision = refl;
  checksum = refl;
}

pub returns-clause-decided : goal.returns-clause-decided
returns-clause-decided c = flagged_examined
