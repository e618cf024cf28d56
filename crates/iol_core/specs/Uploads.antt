-- Permits to upload, and what becomes of an uploaded set.
use Rattle.std.specs.Prelude.{◌≡◌, ℕ, ◌+◌, Bool, true, false, not, if◌then◌else◌, Option, Some, None, Result, Ok, Err}
use Rattle.iol_types.specs.Command.{CommandValue, Store}
use Rattle.iol_types.specs.Config.{may_store_set}
use Rattle.iol_types.specs.DataSet.{SetValue}
use Rattle.iol_types.specs.State.{State, Port, port_numbered}
use Rattle.iol_core.specs.Core.{CoreView, live, live_number, with_permit, names_device}
use Rattle.iol_core.specs.Permits.{is_taken, is_out, without_upload}
use Rattle.iol_core.specs.Submit.{is_stopped, queue_fault, queued}
use Rattle.iol_core.specs.declared.permit.Grant.TheVariants.{Upload}
use Rattle.iol_core.specs.declared.permit.UploadGrant.{UploadGrant}
use Rattle.iol_core.specs.declared.upload.PermitFault.{PermitFault}
use Rattle.iol_core.specs.declared.upload.PermitFault.TheVariants as permit
use Rattle.iol_core.specs.declared.upload.FinishFault.{FinishFault}
use Rattle.iol_core.specs.declared.upload.FinishFault.TheVariants as finish
use Rattle.iol_core.specs.declared.ticket.SubmitFault.TheVariants.{QueueFull, Exhausted}

-- the revision of a port; 0 if it does not exist (own)
abbrev pub revision_of : Option Port → ℕ
revision_of None = 0
revision_of (Some port) = port.revision

abbrev pub revision_at : State → ℕ → ℕ
revision_at state port = revision_of (port_numbered state port)

-- why a port gets no permit to upload from a device with these IDs, by the first cause that applies: it does not exist
-- or may not store a set, it names another device, or a permit of it is out (own)
abbrev pub upload_fault_at : Option Port → ℕ → ℕ → Bool → Option PermitFault
upload_fault_at None vendor device taken = Some permit.NotAllowed
upload_fault_at (Some port) vendor device taken =
    if not (may_store_set port.config) then Some permit.NotAllowed
    else if not (names_device port.config vendor device) then Some permit.WrongDevice
    else if taken then Some permit.Taken
    else None

-- why no permit to upload is granted, by the first cause that applies; `None` if it is granted (own)
abbrev pub upload_fault : CoreView → ℕ → ℕ → ℕ → Option PermitFault
upload_fault core port vendor device =
    if is_stopped core then Some permit.Stopped
    else upload_fault_at (port_numbered (live core) port) vendor device (is_taken core port)

-- a permit to upload is granted for the port's live revision; or it is refused, and nothing changes (own)
abbrev pub IsBeginUpload : CoreView → ℕ → ℕ → ℕ → ℕ → CoreView → Result UploadGrant PermitFault → Type 0
IsBeginUpload old port vendor device connection new (Ok grant) =
    (upload_fault old port vendor device ≡ None)
    × (grant ≡ record { port = port; revision = revision_at (live old) port; vendor = vendor; device = device; connection = connection })
    × (new ≡ with_permit old port (Some (Upload grant)))
IsBeginUpload old port vendor device connection new (Err fault) = (upload_fault old port vendor device ≡ Some fault) × (new ≡ old)

-- the set uploaded under this permit may be stored: the core accepts commands, the permit is out, and the port is at
-- its revision (own)
pub record MayFinish (core : CoreView) (grant : UploadGrant) : Type 0 where
  pub runs : is_stopped core ≡ false
  pub out : is_out core grant ≡ true
  pub revision : revision_at (live core) grant.port ≡ grant.revision

-- the set may not be stored although the core accepts commands: the permit is not out, or the port was configured since
-- (own)
pub record HasChanged (core : CoreView) (grant : UploadGrant) : Type 0 where
  pub runs : is_stopped core ≡ false
  pub changed : is_out core grant ≡ true → (revision_at (live core) grant.port ≡ grant.revision) → ⊥

-- the Store of an uploaded set (own)
abbrev pub store_of : UploadGrant → SetValue → CommandValue
store_of grant set = Store grant.port grant.revision set

-- an upload is finished: its Store waits under the next number, and the permit is spent. If the core has stopped, or
-- the permit is not current, the permit is only spent. If the queue does not accept the Store, or memory runs out,
-- permit and set are returned, and nothing changes (own)
abbrev pub IsFinish : CoreView → UploadGrant → SetValue → CoreView → Result ℕ FinishFault → Type 0
IsFinish old grant set new (Ok ticket) =
    MayFinish old grant × (queue_fault old ≡ None) × (ticket ≡ live_number old + 1)
    × (new ≡ with_permit (queued old (store_of grant set)) grant.port None)
IsFinish old grant set new (Err finish.Stopped) = (is_stopped old ≡ true) × (new ≡ without_upload old grant)
IsFinish old grant set new (Err finish.ConfigChanged) = HasChanged old grant × (new ≡ without_upload old grant)
IsFinish old grant set new (Err (finish.QueueFull permit back)) =
    MayFinish old grant × (queue_fault old ≡ Some QueueFull) × (permit ≡ grant) × (back.value ≡ set) × (new ≡ old)
IsFinish old grant set new (Err (finish.Exhausted permit back)) =
    MayFinish old grant × (queue_fault old ≡ Some Exhausted) × (permit ≡ grant) × (back.value ≡ set) × (new ≡ old)
IsFinish old grant set new (Err (finish.Memory permit back)) =
    MayFinish old grant × (queue_fault old ≡ None) × (permit ≡ grant) × (back.value ≡ set) × (new ≡ old)
