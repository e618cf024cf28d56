-- How far reading has come if it needs memory for what it keeps.
use Rattle.std.specs.Prelude.{◌≡◌, ◌≤◌, ◌<◌, ◌+◌, ◌-◌, ◌*◌, ◌⊎◌, ℕ, zero, suc, true, List, length, take, drop, None, Ok, Err, IsOk}
use Rattle.iol_types.specs.Command.{CommandValue}
use Rattle.iol_types.specs.State.{State, check, apply}
use Rattle.iol_record.specs.Reading.{command_at, port_record_at, store_begun_at, port_begun_at}
use Rattle.iol_record.specs.declared.fault.RecordFault.TheVariants.{Short}
use Rattle.iol_record.specs.declared.version.Version.{Version}
use Rattle.iol_disk.specs.Content.{Image}
use Rattle.iol_disk.specs.declared.disk.TheConstants.{SECTOR_OCTETS}
use Rattle.iol_disk.specs.Gate.{is_open}
use Rattle.iol_layout.specs.Body.{head_of, fits}
use Rattle.iol_layout.specs.Layout.{Layout, port_at, slot_at}
use Rattle.iol_layout.specs.Meaning.{ports_from, body_in, span_in, log_from}
use Rattle.iol_layout.specs.Octets.{octets_at}
use Rattle.iol_layout.specs.declared.area.Area.{Area}
use Rattle.iol_layout.specs.declared.body.TheConstants.{BODY_HEAD_OCTETS}

-- the record of a port may need memory: it is longer than the sectors before one, and with that one the octets exceed the
-- capacity, or its first set is begun as far as its first entry (own)
abbrev pub PortWants : ℕ → Version → Image → ℕ → ℕ → Type 0
PortWants room version image first sectors =
    (j : ℕ) × (j < sectors) × (port_record_at version (octets_at image first j) ≡ Err Short)
    × ((room < SECTOR_OCTETS * (j + 1)) ⊎ IsOk (port_begun_at version (octets_at image first (j + 1))))

-- the record of a port of an area may need memory, after the ports before it, whose records are sound (own)
abbrev pub PortsWant : ℕ → Layout → Area → Image → Type 0
PortsWant room layout a image =
    (p : ℕ) × (before : State) × (p < layout.ports) × (ports_from layout a image 0 p ≡ Ok before)
    × PortWants room layout.version image (port_at layout a p) layout.port_sectors

-- reading and applying this number of commands may need memory: for the first one, a Store whose set is begun as far as its
-- first entry, or after the first one, which passes (own)
abbrev pub CommandsWant : Version → ℕ → State → List ℕ → Type 0
CommandsWant version zero state octets = ⊥
CommandsWant version (suc left) state octets =
    IsOk (store_begun_at version octets)
    ⊎ ((command : CommandValue) × (rest : List ℕ) × (command_at version octets ≡ Ok (command, rest)) × (check state command ≡ None)
    × CommandsWant version left (apply state command) rest)

-- the commands of a body may need memory; its head fits the epoch and number, and the body holds the records (own)
abbrev pub BatchWants : Version → ℕ → ℕ → State → List ℕ → Type 0
BatchWants version epoch first state body =
    (fits (head_of body) epoch first ≡ true) × (BODY_HEAD_OCTETS + (head_of body).octets ≤ length body)
    × CommandsWant version (head_of body).count state (take (head_of body).octets (drop BODY_HEAD_OCTETS body))

-- a slot may need memory, with `left` slots left: its gate is open, and its batch takes at most these; it takes more than one,
-- or its commands may need memory (own)
abbrev pub SlotWants : Layout → Area → ℕ → Image → ℕ → ℕ → ℕ → State → Type 0
SlotWants layout a epoch image k left number state =
    (is_open (image (slot_at layout a k)) ≡ true) × (span_in layout a image k ≤ left)
    × ((1 < span_in layout a image k)
    ⊎ BatchWants layout.version epoch (number + 1) state (body_in layout a image k (span_in layout a image k)))

-- a slot of an area may need memory, after the slots before it, whose batches are sound and legal (own)
abbrev pub LogWants : Layout → Area → ℕ → Image → ℕ → State → Type 0
LogWants layout a epoch image base state =
    (k : ℕ) × (number : ℕ) × (reached : State) × (k < layout.slots)
    × (log_from layout a epoch image 0 0 k base state ≡ Ok (record { used = k; number = number; state = reached }))
    × SlotWants layout a epoch image k (layout.slots - k) number reached
