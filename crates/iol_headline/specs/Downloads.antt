-- A download sends only the entries of the port's durable set.
use Rattle.std.specs.Prelude.{◌≡◌, ℕ, List, ◌∷◌, ◌++◌, Some}
use Rattle.arrayvec.specs.ArrayVec.{ArrayVec}
use Rattle.iol_types.specs.State.{State, Stored, port_numbered}
use Rattle.iol_types.specs.declared.key.TheConstants.{DATA_STORAGE}
use Rattle.iol_link.specs.declared.messages.Request.{Request}
use Rattle.iol_link.specs.declared.messages.Request.TheVariants.{Read, Write}
use Rattle.iol_link.specs.Page.{PageValue}
use Rattle.iol_core.specs.Downloads.{stored_at}
use Rattle.iol_transfer.specs.declared.command.DsCommand.{DsCommand}
use Rattle.iol_transfer.specs.Command.{commanded}
use Rattle.iol_transfer.specs.Exchanges.{Exchange}
use Rattle.iol_transfer.specs.Download.{IsSending}
use Rattle.iol_core.specs.Events.{Event, Changed, Stamp}
use Rattle.iol_core.specs.Own.{own}
use Rattle.iol_core.specs.Statuses.{Downloading}
use Rattle.iol_core.specs.Words.{durable}
use Rattle.iol_headline.specs.Conversations.{Converses, HasPage, Sends}

-- a request writes a parameter, and no command (own)
abbrev pub WritesParameter : Request → Type 0
WritesParameter (Read index subindex) = ⊥
WritesParameter (Write index subindex octets) = index ≡ DATA_STORAGE → ⊥

-- since a port last became `downloading` its own events are exchanges on one connection, and this request is the next of a download
-- of the set that was durable for it then, a set of the device whose page was read last, on that connection (own)
pub record IsDownloadOf (first : ℕ) (start : State) (port connection : ℕ) (request : Request) (events : List Stamp) : Type 0 where
  pub early : List Stamp
  pub clock : ℕ
  pub late : List Stamp
  pub page : PageValue
  pub stored : Stored
  pub conversation : List Exchange
  pub busy : ℕ
  pub split : events ≡ early ++ record { event = Changed port Downloading; clock = clock } ∷ late
  pub shown : HasPage port connection page (own port early)
  pub told : Converses port connection (own port late) conversation
  pub durable : stored_at (port_numbered (durable first start early) port) ≡ Some stored
  pub vendor : stored.set.vendor ≡ page.vendor
  pub device : stored.set.device ≡ page.device
  pub sending : IsSending stored.set conversation request busy

-- a parameter is written only as the next request of a download of the port's durable set (own)
abbrev pub DownloadsOnly : ℕ → State → List Stamp → Event → Type 0
DownloadsOnly first start before e =
    (port connection : ℕ) (request : Request) → Sends port connection request e → WritesParameter request
    → IsDownloadOf first start port connection request before

-- what is written to the Data Storage object is a command (own)
abbrev pub CommandsOnly : List Stamp → Event → Type 0
CommandsOnly before e =
    (port connection subindex : ℕ) (octets : ArrayVec ℕ) → Sends port connection (Write DATA_STORAGE subindex octets) e
    → (command : DsCommand) × (Write DATA_STORAGE subindex octets ≡ commanded command)
