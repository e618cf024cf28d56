-- The configuration, the set and the states of the examples.
use Rattle.std.specs.Prelude.{ℕ, List, [], ◌∷◌, replicate, Some, None}
use Rattle.iol_types.specs.DataSet.{Entry, SetValue}
use Rattle.iol_types.specs.State.{State, Stored, Port}
use Rattle.iol_types.specs.declared.config.PortConfig.{PortConfig}
use Rattle.iol_types.specs.declared.config.PortMode.TheVariants.{IolManual}
use Rattle.iol_types.specs.declared.config.Validation.TheVariants.{BackupAndRestore}

-- for worked examples: IOL_MANUAL, Backup and Restore, vendor 500, device 43981 (own)
abbrev pub example_config : PortConfig
example_config = record {
  mode = IolManual;
  validation = BackupAndRestore;
  vendor = 500;
  device = 43981;
  label = [];
}

-- for worked examples: the parameters 0040.00 with the octets 0A 64 and 0041.01 with 7F, of the device of that
-- configuration, with checksum 591 (own)
abbrev pub example_set : SetValue
example_set = record {
  entries = (record { index = 64; subindex = 0 }, 10 ∷ 100 ∷ []) ∷ (record { index = 65; subindex = 1 }, 127 ∷ []) ∷ [];
  vendor = 500;
  device = 43981;
  checksum = 591;
}

-- for worked examples: the parameter 0040.00 with this number of octets 07 (own)
abbrev pub sevens : ℕ → Entry
sevens octets = (record { index = 64; subindex = 0 }, replicate octets 7)

-- for worked examples: 17 entries of 232 octets, which count 4,012 (own)
abbrev pub nearly_full : List Entry
nearly_full = replicate 17 (sevens 232)

-- for worked examples: the example set, taken under the example configuration (own)
abbrev pub example_stored : Stored
example_stored = record { set = example_set; recorded = example_config }

-- for worked examples: a port with this configuration and revision, and no set (own)
abbrev pub port_of : PortConfig → ℕ → Port
port_of config revision = record { config = config; revision = revision; stored = None; previous = None }

-- for worked examples: a master's one port, with this configuration and revision, and no set (own)
abbrev pub one_port : PortConfig → ℕ → State
one_port config revision = port_of config revision ∷ []

-- for worked examples: a port with the example configuration, revision 1, and the example set, taken under the same
-- configuration (own)
abbrev pub example_port : Port
example_port = record { config = example_config; revision = 1; stored = Some example_stored; previous = None }

-- for worked examples: the example set with 80 in place of 7F, and checksum 594, taken under the example configuration
-- (own)
abbrev pub newer_stored : Stored
newer_stored = record {
  set = record example_set {
    entries = (record { index = 64; subindex = 0 }, 10 ∷ 100 ∷ []) ∷ (record { index = 65; subindex = 1 }, 128 ∷ []) ∷ [];
    checksum = 594;
  };
  recorded = example_config;
}

-- for worked examples: the example port after the newer set is stored, so that the first one is the previous one (own)
abbrev pub renewed_port : Port
renewed_port = record example_port { stored = Some newer_stored; previous = Some example_stored }
