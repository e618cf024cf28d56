-- The body of a slot: a head, and the records of a batch.
use Rattle.std.specs.Prelude.{◌≡◌, ◌≤◌, ◌<◌, ℕ, zero, suc, ◌+◌, ◌*◌, ◌-◌, ◌/◌, ◌==◌}
use Rattle.std.specs.Prelude.{nat_le, Bool, ◌&&◌, if◌then◌else◌, List, [], ◌∷◌, ◌++◌, length, take, drop}
use Rattle.std.specs.Prelude.{Option, Some, None, Result, Ok, Err, ℕ, ◌+◌, ◌≤◌, if◌then◌else◌, List, length, ◌≡◌, ◌<◌, ◌++◌, map}
use Rattle.std.specs.Int.{w16, w32, w64, to_be_bytes}
use Rattle.std.specs.List.{flat_map}
use Rattle.iol_types.specs.Command.{CommandValue, value_of}
use Rattle.iol_record.specs.Reading.{command_at}
use Rattle.iol_record.specs.Record.{command_octets, newest}
use Rattle.iol_record.specs.declared.fault.RecordFault.{RecordFault}
use Rattle.iol_record.specs.declared.version.Version.{Version}
use Rattle.iol_layout.specs.Octets.{number_at, padded}
use Rattle.iol_layout.specs.declared.body.Head.{Head}
use Rattle.iol_layout.specs.declared.header.TheConstants.{LAST_NUMBER}
use Rattle.iol_layout.specs.declared.body.TheConstants.{MOST_COMMANDS, BODY_OCTETS, BODY_HEAD_OCTETS}
use Rattle.iol_layout.specs.declared.geometry.TheConstants.{MOST_SLOTS}
use Rattle.iol_types.specs.declared.command.Command.{Command}

-- the head of a body: epoch 8, number of the first command 8, count 2, octets of the records 4 (format, Slots)
unfoldable pub head_of : List ℕ → Head
head_of body = record {
  epoch = number_at w64 0 body;
  first = number_at w64 8 body;
  count = number_at w16 16 body;
  octets = number_at w32 18 body;
}

-- whether a head may belong to a batch under this epoch whose first command has this number (format, Slots)
abbrev pub fits : Head → ℕ → ℕ → Bool
fits head epoch first =
    (head.epoch == epoch) && (head.first == first) && nat_le 1 head.count && nat_le head.count MOST_COMMANDS
    && nat_le (first + head.count) (LAST_NUMBER + 1)

-- the number of slots of a batch whose records have this number of octets (format, Slots)
abbrev pub slots_of : ℕ → ℕ
slots_of octets = (BODY_HEAD_OCTETS + octets + (BODY_OCTETS - 1)) / BODY_OCTETS

-- a command before the others, if there are others to read (own)
abbrev pub prepended : CommandValue → Option (List CommandValue) → Option (List CommandValue)
prepended command None = None
prepended command (Some commands) = Some (command ∷ commands)

-- the command that was read, and those read from the octets after it (own)
abbrev pub first_then : Result (CommandValue × List ℕ) RecordFault → (List ℕ → Option (List CommandValue)) → Option (List CommandValue)
first_then (Err fault) others = None
first_then (Ok read) others = prepended read.0 (others read.1)

-- this number of commands, if their records fill the octets exactly (format, Slots)
abbrev pub commands_of : Version → ℕ → List ℕ → Option (List CommandValue)
commands_of version zero [] = Some []
commands_of version zero (octet ∷ octets) = None
commands_of version (suc n) octets = first_then (command_at version octets) (λ rest. commands_of version n rest)

-- the commands of a slot's body, if it has a batch under this epoch whose first command has this number (format,
-- Slots)
unfoldable pub batch_of : Version → ℕ → ℕ → List ℕ → Option (List CommandValue)
batch_of version epoch first body =
    let head = head_of body in
    if fits head epoch first then commands_of version head.count (take head.octets (drop BODY_HEAD_OCTETS body)) else None

-- the records of commands as they are written, one after another (format, Slots)
abbrev pub records_of : List CommandValue → List ℕ
records_of commands = flat_map (command_octets newest) commands

-- commands that can form a batch: 1 to 64, whose records fit the slots of an area and are read back unchanged (format, Slots)
pub record IsBatch (commands : List CommandValue) : Type 0 where
  pub some : 1 ≤ length commands
  pub most : length commands ≤ MOST_COMMANDS
  pub short : length (records_of commands) < BODY_OCTETS * MOST_SLOTS
  pub read : commands_of newest (length commands) (records_of commands) ≡ Some commands

-- the number of slots that commands take (format, Slots)
abbrev pub slots_for : List CommandValue → ℕ
slots_for commands = slots_of (length (records_of commands))

-- a head as it is written (format, Slots)
abbrev pub head_octets : ℕ → ℕ → ℕ → ℕ → List ℕ
head_octets epoch first count octets = to_be_bytes w64 epoch ++ to_be_bytes w64 first ++ to_be_bytes w16 count ++ to_be_bytes w32 octets

-- a body as it is written: its head, the records, and zeros to the end of the last sector that they reach (format,
-- Slots)
unfoldable pub body_octets : ℕ → ℕ → List CommandValue → List ℕ
body_octets epoch first commands = padded (head_octets epoch first (length commands) (length (records_of commands)) ++ records_of commands)

-- a body holds all octets of records that its head says (own)
abbrev pub HoldsRecords : List ℕ → Type 0
HoldsRecords body = BODY_HEAD_OCTETS + (head_of body).octets ≤ length body

-- the values of commands (own)
abbrev pub values : List Command → List CommandValue
values commands = map value_of commands
