-- The calls that a port makes of the core, and the core's replies.
use Rattle.std.specs.Prelude.{◌≡◌, ℕ, None, Result, Ok, Err, IfOk}
use Rattle.iol_types.specs.State.{check}
use Rattle.iol_types.specs.DataSet.{SetValue, IsSet}
use Rattle.iol_core.specs.Core.{CoreView, live}
use Rattle.iol_core.specs.Ports.{work_at}
use Rattle.iol_core.specs.Permits.{without_upload, without_download}
use Rattle.iol_core.specs.Submit.{ticket_state}
use Rattle.iol_core.specs.Uploads.{IsBeginUpload, IsFinish, store_of}
use Rattle.iol_core.specs.Downloads.{IsBeginDownload}
use Rattle.iol_core.specs.declared.permit.UploadGrant.{UploadGrant}
use Rattle.iol_core.specs.declared.upload.FinishFault.{FinishFault}
use Rattle.iol_core.specs.declared.upload.FinishFault.TheVariants as finish
use Rattle.iol_core.specs.declared.download.DownloadBegun.{DownloadBegun}
use Rattle.iol_port.specs.declared.call.CoreCall.{CoreCall}
use Rattle.iol_port.specs.declared.call.CoreCall.TheVariants as core_call
use Rattle.iol_port.specs.declared.call.Reply.{Reply}
use Rattle.iol_port.specs.declared.call.Reply.TheVariants as reply

-- a call of the core, with its arguments. It asks for the port's work, whether a command is durable, or for a permit to
-- upload or to download. Or it returns a permit to upload, with or without the set, or one to download (own)
pub data Call : Type 0 where
  Attend : (port : ℕ) → Call
  BeginUpload : (port vendor device connection : ℕ) → Call
  FinishUpload : (grant : UploadGrant) (set : SetValue) → Call
  AbandonUpload : (grant : UploadGrant) → Call
  AskTicket : (ticket : ℕ) → Call
  BeginDownload : (port vendor device checksum : ℕ) → Call
  EndDownload : (port : ℕ) → Call

-- a call in memory as contracts see it (own)
abbrev pub call_of : CoreCall → Call
call_of (core_call.Attend port) = Attend port
call_of (core_call.BeginUpload port vendor device connection) = BeginUpload port vendor device connection
call_of (core_call.FinishUpload permit set) = FinishUpload permit set.value
call_of (core_call.AbandonUpload permit) = AbandonUpload permit
call_of (core_call.AskTicket ticket) = AskTicket ticket
call_of (core_call.BeginDownload port vendor device checksum) = BeginDownload port vendor device checksum
call_of (core_call.EndDownload permit) = EndDownload permit

-- a set is one of the device that a permit to upload names (own)
pub record IsUnder (grant : UploadGrant) (set : SetValue) : Type 0 where
  pub set_is : IsSet set
  pub vendor : set.vendor ≡ grant.vendor
  pub device : set.device ≡ grant.device

-- a call may be made: what is to be stored is of the device that its permit names (own)
abbrev pub MayBeMade : Call → Type 0
MayBeMade (FinishUpload grant set) = IsUnder grant set
MayBeMade _ = Unit {0}

-- a set that the core returns with a permit belongs to the device that the permit names (own)
abbrev pub HandsBack : Result ℕ FinishFault → Type 0
HandsBack (Err (finish.QueueFull permit set)) = IsUnder permit set.value
HandsBack _ = Unit {0}

-- a call takes the core from one state to another, with this reply: each is the core's own step, and a call has no reply of
-- another kind (own)
abbrev pub Replies : Call → CoreView → CoreView → Reply → Type 0
Replies (Attend port) old new (reply.Attended work) = (work ≡ work_at old port) × (new ≡ old)
Replies (BeginUpload port vendor device connection) old new (reply.BegunUpload begun) =
    IsBeginUpload old port vendor device connection new begun
Replies (FinishUpload grant set) old new (reply.FinishedUpload finished) = IsFinish old grant set new finished
Replies (AbandonUpload grant) old new reply.AbandonedUpload = new ≡ without_upload old grant
Replies (AskTicket ticket) old new (reply.Ticket state) = (state ≡ ticket_state old ticket) × (new ≡ old)
Replies (BeginDownload port vendor device checksum) old new (reply.BegunDownload begun) =
    IsBeginDownload old port vendor device checksum new begun
Replies (EndDownload port) old new reply.EndedDownload = new ≡ without_download old port
Replies _ old new _ = ⊥

-- a permit to upload is for what the call named: a port, and a device on a connection (own)
pub record IsGrantFor (port vendor device connection : ℕ) (grant : UploadGrant) : Type 0 where
  pub port_is : grant.port ≡ port
  pub vendor_is : grant.vendor ≡ vendor
  pub device_is : grant.device ≡ device
  pub connection_is : grant.connection ≡ connection

-- a download was permitted to the port that asked, with a set of the device that it named (own)
pub record IsBegunFor (port vendor device : ℕ) (begun : DownloadBegun) : Type 0 where
  pub permit_is : begun.permit ≡ port
  pub set_is : IsSet begun.set.value
  pub vendor_is : begun.set.value.vendor ≡ vendor
  pub device_is : begun.set.value.device ≡ device

-- if the core returns the permit and the set of a filed upload, they are the ones that it was given (own)
abbrev pub IsHandedBack : UploadGrant → SetValue → Result ℕ FinishFault → Type 0
IsHandedBack grant set (Ok ticket) = Unit {0}
IsHandedBack grant set (Err finish.Stopped) = Unit {0}
IsHandedBack grant set (Err finish.ConfigChanged) = Unit {0}
IsHandedBack grant set (Err (finish.QueueFull permit back)) = (permit ≡ grant) × (back.value ≡ set)
IsHandedBack grant set (Err (finish.Exhausted permit back)) = (permit ≡ grant) × (back.value ≡ set)
IsHandedBack grant set (Err (finish.Memory permit back)) = (permit ≡ grant) × (back.value ≡ set)

-- a reply is one to this call, whatever the core holds (own)
abbrev pub IsReplyTo : Call → Reply → Type 0
IsReplyTo (Attend port) (reply.Attended work) = Unit {0}
IsReplyTo (BeginUpload port vendor device connection) (reply.BegunUpload begun) = IfOk begun (IsGrantFor port vendor device connection)
IsReplyTo (FinishUpload grant set) (reply.FinishedUpload finished) = IsHandedBack grant set finished
IsReplyTo (AbandonUpload grant) reply.AbandonedUpload = Unit {0}
IsReplyTo (AskTicket ticket) (reply.Ticket state) = Unit {0}
IsReplyTo (BeginDownload port vendor device checksum) (reply.BegunDownload begun) = IfOk begun (IsBegunFor port vendor device)
IsReplyTo (EndDownload port) reply.EndedDownload = Unit {0}
IsReplyTo _ _ = ⊥

-- the Store of a set that the core takes is legal in its live state (own)
abbrev pub Passes : Call → CoreView → Reply → Type 0
Passes (FinishUpload grant set) old (reply.FinishedUpload (Ok ticket)) = check (live old) (store_of grant set) ≡ None
Passes _ old _ = Unit {0}
