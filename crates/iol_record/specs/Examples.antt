-- The largest port of the examples.
use Rattle.std.specs.Prelude.{[], ◌∷◌, ◌++◌, replicate, Some}
use Rattle.iol_types.specs.State.{Stored, Port}
use Rattle.iol_types.specs.Examples.{example_config, example_set, example_port, sevens, nearly_full}

-- for worked examples: a set that counts 4,096, taken under a configuration with a label of 32 octets (own)
abbrev pub full_stored : Stored
full_stored = record {
  set = record example_set { entries = nearly_full ++ sevens 80 ∷ [] };
  recorded = record example_config { label = replicate 32 126 };
}

-- for worked examples: a port with such a label, and two such sets (own)
abbrev pub full_port : Port
full_port = record example_port {
  config = record example_config { label = replicate 32 126 };
  stored = Some full_stored;
  previous = Some full_stored;
}
