-- The stages of a port.
use Rattle.std.specs.Prelude.{ℕ, Bool, List, Option, None, false}
use Rattle.iol_types.specs.DataSet.{SetValue}
use Rattle.iol_link.specs.Page.{PageValue}
use Rattle.iol_transfer.specs.Exchanges.{Exchange}
use Rattle.iol_transfer.specs.Machine.{Machine, IsSinceBegin}
use Rattle.iol_transfer.specs.Download.{Sender}
use Rattle.iol_core.specs.declared.permit.UploadGrant.{UploadGrant}
use Rattle.iol_core.specs.declared.port.Work.{Work}
use Rattle.iol_port.specs.Calls.{IsUnder}
use Rattle.iol_port.specs.declared.fault.PortFault.{PortFault}
use Rattle.iol_port.specs.declared.stage.Rest.{Rest}
use Rattle.iol_port.specs.declared.stage.Rest.TheVariants.{Off}
use Rattle.iol_port.specs.declared.stage.FoundDevice.{FoundDevice}
use Rattle.iol_port.specs.declared.stage.PageFor.{PageFor}
use Rattle.iol_port.specs.declared.stage.AttendFor.{AttendFor}
use Rattle.iol_port.specs.declared.stage.ExchangeFor.{ExchangeFor}
use Rattle.iol_port.specs.declared.stage.Held.{Held}
use Rattle.iol_port.specs.declared.stage.Transfer.{Transfer}

-- the stage of a port. It is settled, reads a page, asks for its work, or begins an upload or a download. It exchanges
-- messages with the device outside a transfer. It uploads, files the set, has filed it, and waits until it is durable; or
-- it downloads. It breaks a transfer off, returns a permit, or has returned it (own)
pub data Stage : Type 0 where
  Settled : (rest : Rest) → Stage
  Paging : (page_for : PageFor) → Stage
  Attending : (attend_for : AttendFor) → Stage
  BeginningUpload : (found : FoundDevice) → Stage
  BeginningDownload : (found : FoundDevice) (checksum : ℕ) → Stage
  Exchanging : (exchange_for : ExchangeFor) → Stage
  Uploading : (grant : UploadGrant) (page : PageValue) (upload : Machine) → Stage
  Filing : (grant : UploadGrant) (page : PageValue) (set : SetValue) → Stage
  Filed : (page : PageValue) → Stage
  Storing : (ticket : ℕ) (page : PageValue) → Stage
  Downloading : (port : ℕ) (page : PageValue) (download : Sender) → Stage
  Breaking : (held : Held) (fault : PortFault) → Stage
  Returning : (held : Held) (rest : Rest) → Stage
  Returned : (transfer : Transfer) (rest : Rest) → Stage

-- the machine of a port: its port; the revision of the configuration that it last started under, none if it is new;
-- whether the device has asked for an upload since it started; and its stage (own)
pub record PortValue : Type 0 where
  pub port : ℕ
  pub started_revision : Option ℕ
  pub upload_requested : Bool
  pub stage : Stage

-- the machine of a port that last started under this revision, with or without a request for an upload, at this stage (own)
abbrev pub machine_at : ℕ → Option ℕ → Bool → Stage → PortValue
machine_at port started requested stage =
    record { port = port; started_revision = started; upload_requested = requested; stage = stage }

-- a new machine is settled as off (own)
abbrev pub new_machine : ℕ → PortValue
new_machine port = machine_at port None false (Settled Off)

-- the invariant of a stage: a running upload is from the device of its permit, and so is the set that is filed (own)
abbrev pub IsStage : Stage → Type 0
IsStage (Uploading grant page upload) = (conversation : List Exchange) × IsSinceBegin grant.vendor grant.device conversation upload
IsStage (Filing grant page set) = IsUnder grant set
IsStage _ = Unit {0}

-- how a machine continues: at a stage, or it starts with new work (own)
pub data Next : Type 0 where
  To : (stage : Stage) → Next
  Start : (work : Work) → Next

-- the invariant of how a machine continues (own)
abbrev pub IsNext : Next → Type 0
IsNext (To stage) = IsStage stage
IsNext (Start work) = Unit {0}
