use Rattle.std.proofs.Common.{inl, inr, [], ◌∷◌, refl}
use Rattle.iol_types.specs.Command.{Configure, Store}
use Rattle.iol_types.specs.Examples.{newer_stored, example_stored, port_of}
use Rattle.iol_headline.proofs.NoSets.{had_none}
use Rattle.iol_headline.proofs.examples.sets_of_a_port.Goals as goal

pub returns-clause-present : goal.returns-clause-present
returns-clause-present c = inl refl

pub returns-clause-previous : goal.returns-clause-previous
returns-clause-previous c = inr refl

pub returns-clause-stored : goal.returns-clause-stored
returns-clause-stored c = record {
  early = Configure 1 example_stored.recorded ∷ [];
  revision = 1;
  late = Store 1 1 newer_stored.set ∷ [];
  port = port_of example_stored.recorded 1;
  split = refl;
  there = refl;
  recorded = refl;
}

pub returns-clause-not_there : goal.returns-clause-not_there
returns-clause-not_there c = had_none 0 example_stored
