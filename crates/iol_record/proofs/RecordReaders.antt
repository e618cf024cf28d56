-- What other crates use of records: each version spells what it has to, and the lengths of records.
use Rattle.std.proofs.Common.{◌≡◌, ℕ, ◌<◌, ◌≤◌, ◌+◌, true, List, [], ◌∷◌, ◌++◌, length, Option, Some, None, Ok, Err, refl, ap, arith}
use Rattle.std.proofs.Common.{length-append, zero, suc, replicate}
use Rattle.std.specs.Prelude.{IfSome}
use Rattle.std.specs.Int.{w64, to_be_bytes}
use Rattle.iol_types.specs.declared.config.PortConfig.{PortConfig}
use Rattle.iol_types.specs.Label.{is_label}
use Rattle.iol_types.specs.Command.{CommandValue, Configure, Clear, Store, Rollback}
use Rattle.iol_types.specs.State.{Stored, Port, State, IsStored, IsPort, blank}
use Rattle.iol_record.specs.declared.fault.RecordFault.TheVariants.{Short}
use Rattle.iol_record.specs.declared.encode.TheConstants.{LARGEST_COMMAND_RECORD}
use Rattle.iol_record.specs.declared.version.Version.{Version}
use Rattle.iol_record.specs.declared.version.Version.TheVariants.{One, Two}
use Rattle.iol_record.specs.Record.{label_octets, numbers_octets, config_octets, set_octets, stored_octets, previous_octets, port_octets}
use Rattle.iol_record.specs.Record.{largest_port_record, newest, SpellsLabel, SpellsCommand, SpellsPort, SpellsState}
use Rattle.iol_record.specs.Record.{IsCommandRecord, IsPortRecord}
use Rattle.iol_record.specs.Reading.{config_at, command_at, port_parts_at, port_record_at}
use Rattle.iol_record.proofs.Readers.{extended}
use Rattle.iol_record.proofs.Decoders.{only_front}
use Rattle.iol_record.proofs.ConfigReaders.{short-label}
use Rattle.iol_record.proofs.CommandReaders.{command_reads}
use Rattle.iol_record.proofs.PortReaders.{port_record_reads}
use Rattle.iol_record.proofs.SetReaders.{length-set_octets}

-- the version that is written spells all commands and ports
pub spells-command : (command : CommandValue) → SpellsCommand newest command
spells-command (Configure port config) = tt
spells-command (Clear port) = tt
spells-command (Store port revision set) = tt
spells-command (Rollback port) = tt

spells-port : (port : Port) → SpellsPort newest port
spells-port port = record { label = tt; recorded = by port.stored; previous = tt }
  where
    by : (stored : Option Stored) → IfSome stored (λ stored. SpellsLabel newest stored.recorded.label)
    by None = tt
    by (Some stored) = tt

pub spells-state : (state : State) → SpellsState newest state
spells-state [] = tt
spells-state (port ∷ ports) = (spells-port port, spells-state ports)

-- every version spells ports that were never configured
pub spells-blank : (version : Version) (n : ℕ) → SpellsState version (replicate n blank)
spells-blank One zero = tt
spells-blank One (suc n) = (record { label = refl; recorded = tt; previous = refl }, spells-blank One n)
spells-blank Two n = spells-state (replicate n blank)

-- the maximum number of octets of a label, and of a previous set
abbrev most_label : Version → ℕ
most_label One = 0
most_label Two = 33

abbrev most_previous : Version → ℕ
most_previous One = 0
most_previous Two = 4150

length-label_octets : (version : Version) (label : List ℕ) → is_label label ≡ true
    → length (label_octets version label) ≤ most_label version
length-label_octets One label is = omega arith
length-label_octets Two label is = omega (arith, short-label label is)

length-config_octets : (version : Version) (config : PortConfig) → length (config_octets version config)
    ≡ 8 + length (label_octets version config.label)
length-config_octets version config = length-append (numbers_octets config) (label_octets version config.label)

-- a stored set has a flag, a configuration, and at most 4,108 octets
stored-short : (version : Version) (stored : Option Stored) → IfSome stored IsStored
    → length (stored_octets version stored) ≤ 4117 + most_label version
stored-short version None is = omega arith
stored-short version (Some stored) is =
    let all = length-append (config_octets version stored.recorded) (set_octets stored.set) in
    omega (
      arith,
      all,
      length-config_octets version stored.recorded,
      length-set_octets stored.set,
      is.set.entries.fits,
      length-label_octets version stored.recorded.label is.recorded.label,
    )

previous-short : (version : Version) (previous : Option Stored) → IfSome previous IsStored
    → length (previous_octets version previous) ≤ most_previous version
previous-short One previous is = omega arith
previous-short Two previous is = let short = stored-short Two previous is in omega (arith, short)

label-most : (version : Version) → most_label version ≤ 33
label-most One = omega arith
label-most Two = omega arith

parts-fit : (version : Version) → 4133 + most_label version + most_label version + most_previous version ≤ largest_port_record version
parts-fit One = omega arith
parts-fit Two = omega arith

module _ (version : Version) where
  -- a command's record is read, whatever follows it
  pub command_at-record : (front rest : List ℕ) (command : CommandValue) → IsCommandRecord version front command
      → command_at version (front ++ rest) ≡ Ok (command, rest)
  command_at-record front rest command is =
      only_front (command_reads version) (front ++ rest) front command rest is.spelling (is.in_range, is.spelled) refl

  -- a port's record is read, whatever follows it
  pub port_record_at-record : (front rest : List ℕ) (port : Port) → IsPortRecord version front port
      → port_record_at version (front ++ rest) ≡ Ok (port, rest)
  port_record_at-record front rest port is =
      only_front (port_record_reads version) (front ++ rest) front port rest is.spelling (is.in_range, is.spelled) refl

  -- a command's record has at least one octet, and at most those of the largest one
  pub length-command_record : (front : List ℕ) (command : CommandValue) → IsCommandRecord version front command → (0 < length front)
      × (length front ≤ LARGEST_COMMAND_RECORD)
  length-command_record front (Configure port config) is =
      let long = ap length is.spelling in
      let all = length-config_octets version config in
      (omega (arith, long), omega (arith, long, all, length-label_octets version config.label is.in_range.1.label, label-most version))
  length-command_record front (Clear port) is = let long = ap length is.spelling in (omega (arith, long), omega (arith, long))
  length-command_record front (Store port revision set) is =
      let long = ap length is.spelling in
      let all = length-set_octets set in
      (omega (arith, long), omega (arith, long, all, is.in_range.2.entries.fits))
  length-command_record front (Rollback port) is = let long = ap length is.spelling in (omega (arith, long), omega (arith, long))

  -- a port's record has at least one octet, and at most those of the largest one
  pub length-port_octets : (port : Port) → IsPort port → (0 < length (port_octets version port))
      × (length (port_octets version port) ≤ largest_port_record version)
  length-port_octets port is =
      let front = length-config_octets version port.config in
      let sets = stored_octets version port.stored ++ previous_octets version port.previous in
      let behind = length-append (stored_octets version port.stored) (previous_octets version port.previous) in
      let middle = length-append (to_be_bytes w64 port.revision) sets in
      let whole = length-append (config_octets version port.config) (to_be_bytes w64 port.revision ++ sets) in (
        omega (arith, front, whole),
        omega (
          arith,
          front,
          behind,
          middle,
          whole,
          stored-short version port.stored is.stored,
          previous-short version port.previous is.previous,
          length-label_octets version port.config.label is.config.label,
          parts-fit version,
        ),
      )

  -- octets that are not short as a port are read the same if more octets follow
  pub port_record_at-append : (octets more : List ℕ) → (port_record_at version octets ≡ Err Short → ⊥)
      → port_record_at version (octets ++ more) ≡ extended more (port_record_at version octets)
  port_record_at-append = (port_record_reads version).stays

  -- no octets are short as a port
  pub port_record_at-nothing : port_record_at version [] ≡ Err Short
  unfolding port_record_at port_parts_at config_at
  port_record_at-nothing = refl
