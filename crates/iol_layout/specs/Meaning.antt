-- What an image of a disk means: the state of a master after a number of commands, or why it means no state.
use Rattle.std.specs.Prelude.{ℕ, zero, suc, ◌+◌, ◌-◌, ◌*◌, ◌==◌, nat_le, nat_lt, Bool, true, false, ◌&&◌, if◌then◌else◌, List, [], ◌∷◌}
use Rattle.std.specs.Prelude.{length, Option, Some, None, Result, Ok, Err}
use Rattle.iol_types.specs.State.{Port, State, after, legal}
use Rattle.iol_record.specs.Reading.{◌>>=◌, port_record_at}
use Rattle.iol_record.specs.declared.fault.RecordFault.{RecordFault}
use Rattle.iol_record.specs.declared.version.Version.{Version}
use Rattle.iol_record.specs.declared.version.Version.TheVariants.{One, Two}
use Rattle.iol_disk.specs.Content.{Image}
use Rattle.iol_disk.specs.Gate.{is_open}
use Rattle.iol_layout.specs.Geometry.{Geometry, geometry_of, given_up}
use Rattle.iol_layout.specs.Layout.{Layout, laid_out, layout_of, total, gate_at, header_at, port_at, slot_at, body_at}
use Rattle.iol_layout.specs.Octets.{octets_at}
use Rattle.iol_types.specs.Command.{CommandValue}
use Rattle.iol_layout.specs.Body.{head_of, slots_of, batch_of}
use Rattle.iol_layout.specs.Header.{header_of, is_sound, version_in}
use Rattle.iol_layout.specs.declared.area.Area.{Area}
use Rattle.iol_layout.specs.declared.area.Area.TheVariants.{A, B}
use Rattle.iol_disk.specs.declared.slot.TheConstants.{BODY_SECTORS}
use Rattle.iol_layout.specs.declared.geometry.TheConstants.{GEOMETRY, DISK_GATE}
use Rattle.iol_layout.specs.declared.header.Header.{Header}
use Rattle.iol_layout.specs.declared.in_use.InUse.{InUse}

-- why an image means no state: it is not formatted, an area keeps no slot in version 2, or this sector is the first damaged
-- one (format, Recovery)
pub data Cause : Type 0 where
  unformatted : Cause
  too_small : Cause
  damaged : (sector : ℕ) → Cause

-- a value if the test holds, else the sector is damaged (own)
abbrev pub if_sound : {A : Type 0} → Bool → ℕ → A → Result A Cause
if_sound true sector x = Ok x
if_sound false sector x = Err (damaged sector)

-- a value if there is one, else the sector is damaged (own)
abbrev pub or_damaged : {A : Type 0} → Option A → ℕ → Result A Cause
or_damaged (Some x) sector = Ok x
or_damaged None sector = Err (damaged sector)

-- the disk has a gate, and it is open (format, Recovery)
abbrev pub is_formatted : ℕ → Image → Bool
is_formatted sectors image = nat_lt DISK_GATE sectors && is_open (image DISK_GATE)

-- a geometry, if an area keeps a slot in version 2, else the disk is too small (format, Recovery)
abbrev pub or_too_small : Geometry → Result Geometry Cause
or_too_small g = if nat_lt (given_up Two g.ports) g.slots then Ok g else Err too_small

-- the geometry for which a disk of this number of sectors is formatted (format, Recovery)
abbrev pub geometry_in : ℕ → Image → Result Geometry Cause
geometry_in sectors image =
    if is_formatted sectors image
    then (or_damaged (geometry_of (image GEOMETRY)) GEOMETRY >>= λ g.
    if_sound (nat_le (total (laid_out One g)) sectors) GEOMETRY g >>= or_too_small)
    else Err unformatted

-- the header of an area, if the area's gate is open (format, Recovery)
abbrev pub header_in : Layout → Image → Area → Option Header
header_in layout image a = if is_open (image (gate_at layout a)) then Some (header_of (image (header_at layout a))) else None

-- an area as the one in use, if its header is sound (format, Recovery)
abbrev pub in_use : Layout → Area → Header → Result InUse Cause
in_use layout a header = if_sound (is_sound header) (header_at layout a) (record { area = a; header = header })

-- the open area with the greatest epoch (format, Recovery)
abbrev pub greatest : Layout → Option Header → Option Header → Result InUse Cause
greatest layout None None = Err (damaged (gate_at layout A))
greatest layout (Some a) None = in_use layout A a
greatest layout None (Some b) = in_use layout B b
greatest layout (Some a) (Some b) =
    if a.epoch == b.epoch then Err (damaged (header_at layout B))
    else if nat_lt a.epoch b.epoch then in_use layout B b else in_use layout A a

-- the area in use; gates and headers are in the same places in each version (format, Recovery)
abbrev pub in_use_in : Layout → Image → Result InUse Cause
in_use_in layout image = greatest layout (header_in layout image A) (header_in layout image B)

-- the port of a decoded record, without the octets after it (format, Recovery)
abbrev pub port_of : Result (Port × List ℕ) RecordFault → Option Port
port_of (Ok read) = Some read.0
port_of (Err fault) = None

-- the port whose record is in this number of sectors from the first one on (format, Recovery)
abbrev pub port_in : Version → Image → ℕ → ℕ → Result Port Cause
port_in version image first sectors = or_damaged (port_of (port_record_at version (octets_at image first sectors))) first

-- the ports from this one on, as their records have them (format, Recovery)
unfoldable pub ports_from : Layout → Area → Image → ℕ → ℕ → Result State Cause
ports_from layout a image p zero = Ok []
ports_from layout a image p (suc left) =
    port_in layout.version image (port_at layout a p) layout.port_sectors
    >>= λ port. ports_from layout a image (p + 1) left >>= λ ports. Ok (port ∷ ports)

-- where a journal continues: slots used, commands so far, the state after them (own)
pub record Log : Type 0 where
  pub used : ℕ
  pub number : ℕ
  pub state : State

-- the body of a batch that begins in a slot and takes `n` slots (format, Slots)
abbrev pub body_in : Layout → Area → Image → ℕ → ℕ → List ℕ
body_in layout a image k n = octets_at (λ j. image (body_at layout a k j)) 0 (BODY_SECTORS * n)

-- the number of slots of the batch that begins in a slot, as its head says (format, Slots)
abbrev pub span_in : Layout → Area → Image → ℕ → ℕ
span_in layout a image k = slots_of (head_of (image (body_at layout a k 0))).octets

-- the commands of the batch that begins in a slot, under this epoch and with this number of its first command, if it takes at
-- most this number of slots (format, Slots)
abbrev pub batch_in : Layout → Area → ℕ → Image → ℕ → ℕ → ℕ → Option (List CommandValue)
batch_in layout a epoch image k most first =
    if nat_le (span_in layout a image k) most
    then batch_of layout.version epoch first (body_in layout a image k (span_in layout a image k)) else None

-- the batches from a slot on, applied to a state after a number of commands, up to the first closed gate at which a batch could
-- begin; the first `skipped` slots belong to the batch before (format, Recovery)
abbrev pub log_from : Layout → Area → ℕ → Image → ℕ → ℕ → ℕ → ℕ → State → Result Log Cause
log_from layout a epoch image k skipped zero number state = Ok (record { used = k; number = number; state = state })
log_from layout a epoch image k (suc skipped) (suc left) number state = log_from layout a epoch image (k + 1) skipped left number state
log_from layout a epoch image k zero (suc left) number state =
    if is_open (image (slot_at layout a k))
    then (or_damaged (batch_in layout a epoch image k (suc left) (number + 1)) (body_at layout a k 0)
    >>= λ commands. if_sound (legal state commands) (body_at layout a k 0) commands
    >>= λ legal_commands.
    log_from layout a epoch image (k + 1) (span_in layout a image k - 1) left (number + length legal_commands) (after state legal_commands))
    else Ok (record { used = k; number = number; state = state })

-- a journal's standing: where it writes next, the number of its commands, and the state after them (own)
pub record Standing : Type 0 where
  pub layout : Layout
  pub area : Area
  pub epoch : ℕ
  pub used : ℕ
  pub number : ℕ
  pub state : State

-- the layout of the area in use, in the version that its header names (format, Recovery)
abbrev pub layout_used : Geometry → InUse → Layout
layout_used g used = laid_out (version_in used.header) g

-- the standing of the journal on an image of this number of sectors, or the first cause, in the order of reading, why it has none
-- (format, Recovery)
unfoldable pub standing_in : ℕ → Image → Result Standing Cause
standing_in sectors image =
    geometry_in sectors image
    >>= λ g. in_use_in (layout_of g) image
    >>= λ used. ports_from (layout_used g used) used.area image 0 g.ports
    >>= λ ports.
    log_from (layout_used g used) used.area used.header.epoch image 0 0 (layout_used g used).slots used.header.base ports
    >>= λ log. Ok (record {
      layout = layout_used g used;
      area = used.area;
      epoch = used.header.epoch;
      used = log.used;
      number = log.number;
      state = log.state;
    })

-- a meaning: a number of commands, and the state of a master after them (own)
pub record Meaning : Type 0 where
  pub number : ℕ
  pub state : State

-- what an image of this number of sectors means: a number of commands and the state after them, or the first cause why it means
-- none (format, Recovery)
abbrev pub meaning : ℕ → Image → Result Meaning Cause
meaning sectors image = standing_in sectors image >>= λ s. Ok (record { number = s.number; state = s.state })
