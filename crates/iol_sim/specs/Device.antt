-- A simulated device with Data Storage, and its answers.
use Rattle.std.specs.Prelude.{◌≡◌, ℕ, ◌+◌, ◌*◌, ◌==◌, ◌&&◌, nat_lt, nat_le, Bool, true, false, if◌then◌else◌, List, [], ◌∷◌, ◌++◌, length}
use Rattle.std.specs.Prelude.{drop, Option, Some, None, IfSome, Result, Ok, Err}
use Rattle.std.specs.Option.{option_map_or, ok_or}
use Rattle.std.specs.Int.{w16, w32, to_be_bytes}
use Rattle.std.specs.Map.{keys_of}
use Rattle.indexmap.specs.IndexMap.{insert_entry}
use Rattle.iol_types.specs.Key.{same_key}
use Rattle.iol_types.specs.DataSet.{Entry, data_at, octets_of}
use Rattle.iol_types.specs.declared.key.Key.{Key}
use Rattle.iol_types.specs.declared.key.TheConstants.{DATA_STORAGE}
use Rattle.iol_link.specs.Isdu.{IsRequest, IsAnswer}
use Rattle.iol_link.specs.Faults.{request_fault}
use Rattle.iol_link.specs.declared.messages.Request.{Request}
use Rattle.iol_link.specs.declared.messages.Request.TheVariants.{Read, Write}
use Rattle.iol_link.specs.declared.messages.Answer.{Answer}
use Rattle.iol_link.specs.declared.messages.Answer.TheVariants.{ReadOk, ReadFault, WriteOk, WriteFault}
use Rattle.iol_transfer.specs.Command.{ds_command_of}
use Rattle.iol_transfer.specs.List.{list_octets}
use Rattle.iol_transfer.specs.declared.list.Next.TheVariants as next
use Rattle.iol_transfer.specs.declared.command.DsCommand.{DsCommand}
use Rattle.iol_transfer.specs.declared.command.DsCommand.TheVariants.{UploadStart, UploadEnd, DownloadStart, DownloadEnd, Break}
use Rattle.iol_transfer.specs.declared.object.TheConstants.{DS_COMMAND, STATE_PROPERTY, DATA_STORAGE_SIZE, PARAMETER_CHECKSUM, INDEX_LIST}
use Rattle.iol_transfer.specs.declared.property.State.{State}
use Rattle.iol_transfer.specs.declared.property.State.TheVariants.{Inactive, Upload, Download, Locked}
use Rattle.iol_sim.specs.Parameters.{checksum_of}
use Rattle.iol_sim.specs.Refusal.{code_of}
use Rattle.iol_sim.specs.declared.device.TheConstants.{DS_UPLOAD_REQUEST}
use Rattle.iol_sim.specs.declared.refusal.TheConstants.{DEVICE_APPLICATION_ERROR}
use Rattle.iol_sim.specs.declared.refusal.Refusal.{Refusal}
use Rattle.iol_sim.specs.declared.refusal.Refusal.TheVariants.{NoIndex, NoSubindex, AccessDenied, OutOfRange, TooLong, TooShort}

-- a simulated device: the values on its page, its parameters in order, the state of its Data Storage,
-- DS_UPLOAD_FLAG, and whether its event is pending (own)
pub record Device : Type 0 where
  pub vendor : ℕ
  pub device : ℕ
  pub revision : ℕ
  pub isdu : Bool
  pub parameters : List Entry
  pub state : State
  pub flag : Bool
  pub event : Bool

-- Direct Parameter page 1: at address 02 MinCycleTime, 03 whether ISDUs are supported, 04 RevisionID,
-- 07 and 08 VendorID, 09 to 0B DeviceID, most significant octet first (standard, Direct Parameter
-- page 1)
abbrev pub page_of : Device → List ℕ
page_of device =
    0x00 ∷ 0x00 ∷ 0x17 ∷ (if device.isdu then 0x01 else 0x00) ∷ device.revision ∷ 0x00 ∷ 0x00
    ∷ (to_be_bytes w16 device.vendor ++ (drop 1 (to_be_bytes w32 device.device)
    ++ 0x00 ∷ 0x00 ∷ 0x00 ∷ 0x00 ∷ []))

-- the number of a state (standard, Data Storage object)
abbrev pub state_number : State → ℕ
state_number Inactive = 0
state_number Upload = 1
state_number Download = 2
state_number Locked = 3

-- State_Property: the state in bits 1 and 2, DS_UPLOAD_FLAG in bit 7 (standard, Data Storage object)
abbrev pub property_octet : Device → ℕ
property_octet device = state_number device.state * 2 + (if device.flag then 128 else 0)

-- the value that is read from the Data Storage object at a Subindex (standard, Data Storage object)
abbrev pub object_read : Device → ℕ → Result (List ℕ) Refusal
object_read device subindex =
    if subindex == DS_COMMAND then Err AccessDenied
    else if subindex == STATE_PROPERTY then Ok (property_octet device ∷ [])
    else if subindex == DATA_STORAGE_SIZE then Ok (to_be_bytes w32 (octets_of device.parameters))
    else if subindex == PARAMETER_CHECKSUM then Ok (to_be_bytes w32 (checksum_of device.parameters))
    else if subindex == INDEX_LIST then Ok (list_octets (keys_of device.parameters) next.End)
    else Err NoSubindex

-- the value that is read from a device at a key (own)
abbrev pub read_of : Device → Key → Result (List ℕ) Refusal
read_of device key =
    if key.index == DATA_STORAGE then object_read device key.subindex
    else ok_or (data_at device.parameters key) NoIndex

-- the device after it carries out a DS_Command (standard, Data Storage object)
abbrev pub after_command : Device → DsCommand → Device
after_command device UploadStart = record device { state = Upload }
after_command device UploadEnd = record device { state = Inactive; flag = false }
after_command device DownloadStart = record device { state = Download }
after_command device DownloadEnd = record device { state = Inactive; flag = false }
after_command device Break = record device { state = Inactive }

-- the DS_Command in written octets: one octet, which belongs to a command
-- (standard, Data Storage object)
abbrev pub command_in : List ℕ → Option DsCommand
command_in (octet ∷ []) = ds_command_of octet
command_in _ = None

-- the Data Storage of a device is locked (standard, Data Storage object)
abbrev pub is_locked : State → Bool
is_locked Locked = true
is_locked _ = false

-- the device after DS_Command is written; a locked device refuses every command (own)
abbrev pub commanded : Device → List ℕ → Result Device Refusal
commanded device octets =
    if is_locked device.state then Err AccessDenied
    else option_map_or (λ command. Ok (after_command device command)) (command_in octets) (Err OutOfRange)

-- the device after a write of the Data Storage object at a Subindex (standard, Data Storage object)
abbrev pub object_written : Device → ℕ → List ℕ → Result Device Refusal
object_written device subindex octets =
    if subindex == DS_COMMAND then commanded device octets
    else if nat_le STATE_PROPERTY subindex && nat_le subindex INDEX_LIST then Err AccessDenied
    else Err NoSubindex

-- a parameter, which has `count` octets, is written with the same number of octets (own)
abbrev pub parameter_written : Device → Key → List ℕ → ℕ → Result Device Refusal
parameter_written device key octets count =
    if nat_lt count (length octets) then Err TooLong
    else if nat_lt (length octets) count then Err TooShort
    else Ok (record device { parameters = insert_entry same_key device.parameters key octets })

-- a parameter is written, if the device has it (own)
abbrev pub value_written : Device → Key → List ℕ → Result Device Refusal
value_written device key octets =
    option_map_or (λ present. parameter_written device key octets (length present))
    (data_at device.parameters key) (Err NoIndex)

-- the device after a write at a key (own)
abbrev pub write_of : Device → Key → List ℕ → Result Device Refusal
write_of device key octets =
    if key.index == DATA_STORAGE then object_written device key.subindex octets
    else value_written device key octets

-- the answer to a read (standard, ISDU)
abbrev pub read_answer : Result (List ℕ) Refusal → Answer
read_answer (Ok octets) = ReadOk (record { items = octets })
read_answer (Err refusal) = ReadFault DEVICE_APPLICATION_ERROR (code_of refusal)

-- the answer to a write (standard, ISDU)
abbrev pub write_answer : Result Device Refusal → Answer
write_answer (Ok device) = WriteOk
write_answer (Err refusal) = WriteFault DEVICE_APPLICATION_ERROR (code_of refusal)

-- the device after a write, which is the same if the write is refused (own)
abbrev pub after_write : Device → Result Device Refusal → Device
after_write device (Ok after) = after
after_write device (Err refusal) = device

-- the answer of a device to a request, and the device after it (own)
abbrev pub respond : Device → Request → Answer × Device
respond device (Read index subindex) =
    (read_answer (read_of device (record { index = index; subindex = subindex })), device)
respond device (Write index subindex octets) =
    let written = write_of device (record { index = index; subindex = subindex }) octets.items in
    (write_answer written, after_write device written)

-- No Service, the octet 00 alone (standard, ISDU)
abbrev pub no_service : List ℕ
no_service = 0x00 ∷ []

-- a device answers octets with octets, and may change: a request with the answer to it, and octets
-- that are not a request with No Service (own)
pub record Answers (old : Device) (octets answer : List ℕ) (new : Device) : Type 0 where
  pub request :
      (request : Request) → IsRequest octets request
      → IsAnswer answer (respond old request).0 × (new ≡ (respond old request).1)
  pub others : IfSome (request_fault octets) (λ _. (answer ≡ no_service) × (new ≡ old))

-- a device that requests an upload: its flag is set, and its event is pending (own)
abbrev pub raised : Device → Device
raised device = record device { flag = true; event = true }

-- the device after a write requests an upload (own)
abbrev pub raised_if_written : Result Device Refusal → Result Device Refusal
raised_if_written (Ok device) = Ok (raised device)
raised_if_written (Err refusal) = Err refusal

-- the device after a change at the device itself: an existing parameter is written, and the device
-- requests an upload (own)
abbrev pub change_of : Device → Key → List ℕ → Result Device Refusal
change_of device key octets = raised_if_written (value_written device key octets)

-- the event that a device reports, if one is pending (standard, EventCodes)
abbrev pub told : Device → Option ℕ
told device = if device.event then Some DS_UPLOAD_REQUEST else None

-- the device after it has reported its event (own)
abbrev pub after_told : Device → Device
after_told device = record device { event = false }

-- a device that was lost: its Data Storage is inactive unless it is locked, and a pending event is
-- dropped (own)
abbrev pub lost_device : Device → Device
lost_device device = record device { state = if is_locked device.state then Locked else Inactive; event = false }
