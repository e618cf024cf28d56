-- The status of a port.
use Rattle.std.specs.Prelude.{Bool, true, false}
use Rattle.iol_port.specs.Stage.{Stage, Settled, Paging, Attending, BeginningUpload, BeginningDownload, Exchanging, Uploading, Filing}
use Rattle.iol_port.specs.Stage.{Filed, Storing, Downloading, Breaking, Returning, Returned}
use Rattle.iol_port.specs.declared.status.PortStatus.{PortStatus}
use Rattle.iol_port.specs.declared.status.PortStatus.TheVariants as status
use Rattle.iol_port.specs.declared.stage.Rest.{Rest}
use Rattle.iol_port.specs.declared.stage.Rest.TheVariants as rest
use Rattle.iol_port.specs.declared.stage.PageFor.{PageFor}
use Rattle.iol_port.specs.declared.stage.PageFor.TheVariants as page
use Rattle.iol_port.specs.declared.stage.AttendFor.{AttendFor}
use Rattle.iol_port.specs.declared.stage.AttendFor.TheVariants as attend
use Rattle.iol_port.specs.declared.stage.ExchangeFor.{ExchangeFor}
use Rattle.iol_port.specs.declared.stage.ExchangeFor.TheVariants as exchange
use Rattle.iol_port.specs.declared.stage.Held.{Held}
use Rattle.iol_port.specs.declared.stage.Held.TheVariants as held
use Rattle.iol_port.specs.declared.stage.Transfer.{Transfer}
use Rattle.iol_port.specs.declared.stage.Transfer.TheVariants as transfer

-- the status of a settled port (own)
abbrev pub status_at_rest : Rest → PortStatus
status_at_rest rest.Off = status.Off
status_at_rest rest.Lost = status.Lost
status_at_rest (rest.Failed fault) = status.Failed fault
status_at_rest (rest.Ready page) = status.Ready
status_at_rest (rest.ReadyLocked page) = status.ReadyLocked
status_at_rest (rest.ReadyEmpty page) = status.ReadyEmpty
status_at_rest (rest.Mismatch fault page) = status.Mismatch fault

-- the status while a page is read: the old one if the page is compared (own)
abbrev pub status_paging : PageFor → PortStatus
status_paging (page.Comparing work rest) = status_at_rest rest
status_paging (page.Identifying work) = status.Starting

-- the status while the core is asked for the port's work (own)
abbrev pub status_attending : AttendFor → PortStatus
status_attending (attend.Waking rest) = status_at_rest rest
status_attending (attend.Confirming found property checksum) = status.Starting
status_attending attend.Restarting = status.Uploading

-- the status of a set that was uploaded: it is being stored, or not yet (own)
abbrev pub status_uploaded : Bool → PortStatus
status_uploaded true = status.Storing
status_uploaded false = status.Uploading

-- the status during an exchange outside a transfer (own)
abbrev pub status_exchanging : ExchangeFor → PortStatus
status_exchanging (exchange.ReadingState found left) = status.Starting
status_exchanging (exchange.ReadingChecksum found property left) = status.Starting
status_exchanging (exchange.EndingUpload page left) = status.Storing
status_exchanging (exchange.Stopping storing) = status_uploaded storing
status_exchanging exchange.Yielding = status.Uploading

-- the status during a transfer (own)
abbrev pub status_during : Transfer → PortStatus
status_during transfer.Upload = status.Uploading
status_during transfer.Download = status.Downloading

-- the transfer that a permit is for (own)
abbrev pub transfer_of : Held → Transfer
transfer_of (held.Upload permit) = transfer.Upload
transfer_of (held.Download permit) = transfer.Download

-- the status until a permit is returned: that of the transfer, but a loss shows at once (own)
abbrev pub status_returning : Transfer → Rest → PortStatus
status_returning kind rest.Lost = status.Lost
status_returning kind _ = status_during kind

-- the status of a port (own)
abbrev pub status_of : Stage → PortStatus
status_of (Settled rest) = status_at_rest rest
status_of (Paging page_for) = status_paging page_for
status_of (Attending attend_for) = status_attending attend_for
status_of (BeginningUpload found) = status.Starting
status_of (BeginningDownload found checksum) = status.Starting
status_of (Exchanging exchange_for) = status_exchanging exchange_for
status_of (Uploading grant page upload) = status.Uploading
status_of (Filing grant page set) = status.Uploading
status_of (Filed page) = status.Uploading
status_of (Storing ticket page) = status.Storing
status_of (Downloading port page download) = status.Downloading
status_of (Breaking held fault) = status_during (transfer_of held)
status_of (Returning held rest) = status_returning (transfer_of held) rest
status_of (Returned kind rest) = status_returning kind rest
