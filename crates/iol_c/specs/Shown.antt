-- The answers, as they are written to structs of C.
use Rattle.std.specs.Prelude.{ℕ, true, false, length, Option, None, Some}
use Rattle.iol_link.specs.declared.validation.IdentFault.{IdentFault}
use Rattle.iol_link.specs.declared.validation.IdentFault.TheVariants as ident
use Rattle.iol_link.specs.declared.faults.IsduFault.{IsduFault}
use Rattle.iol_link.specs.declared.faults.IsduFault.TheVariants as isdu
use Rattle.iol_transfer.specs.declared.fault.TransferFault.{TransferFault}
use Rattle.iol_transfer.specs.declared.fault.TransferFault.TheVariants as transfer
use Rattle.iol_core.specs.declared.upload.PermitFault.{PermitFault}
use Rattle.iol_core.specs.declared.upload.PermitFault.TheVariants as permit
use Rattle.iol_core.specs.declared.download.DownloadFault.{DownloadFault}
use Rattle.iol_core.specs.declared.download.DownloadFault.TheVariants as download
use Rattle.iol_port.specs.declared.fault.StoringFault.{StoringFault}
use Rattle.iol_port.specs.declared.fault.StoringFault.TheVariants as unstored
use Rattle.iol_port.specs.declared.fault.PortFault.{PortFault}
use Rattle.iol_port.specs.declared.fault.PortFault.TheVariants as fault
use Rattle.iol_port.specs.declared.status.PortStatus.{PortStatus}
use Rattle.iol_port.specs.declared.status.PortStatus.TheVariants as status
use Rattle.iol_handed.specs.declared.ask.SessionAnswer.{SessionAnswer}
use Rattle.iol_handed.specs.declared.ask.SessionAnswer.TheVariants as answer
use Rattle.iol_handed.specs.declared.ask.SetView.{SetView}
use Rattle.iol_handed.specs.declared.ask.View.{View}
use Rattle.iol_c.specs.Configs.{config_struct}
use Rattle.iol_c.specs.Filled.{filled}
use Rattle.iol_c.specs.declared.structs.DiskCall.{DiskCall}
use Rattle.iol_c.specs.declared.structs.Entry.{Entry as EntryStruct}
use Rattle.iol_c.specs.declared.structs.PortView.{PortView}
use Rattle.iol_c.specs.declared.structs.Request.{Request}
use Rattle.iol_c.specs.declared.structs.SetSize.{SetSize}
use Rattle.iol_c.specs.declared.structs.Status.{Status}

-- the disk call that is wanted, as `struct iolm_disk_call` (own)
abbrev pub call_after : SessionAnswer → DiskCall → DiskCall
call_after (answer.Write sector octets) call = record { sector = sector; octets = octets }
call_after (answer.Read sector) call = record call { sector = sector }
call_after said call = call

-- the request that is to be sent, as `struct iolm_request` (own)
abbrev pub request_after : SessionAnswer → Request → Request
request_after (answer.Request octets) request = record { count = length octets.items; octets = filled 238 octets.items }
request_after said request = request

-- the number of the last durable command, and of the last accepted one (own)
abbrev pub durable_after : SessionAnswer → ℕ → ℕ
durable_after (answer.Numbers durable accepted) number = durable
durable_after said number = number

abbrev pub accepted_after : SessionAnswer → ℕ → ℕ
accepted_after (answer.Numbers durable accepted) number = accepted
accepted_after said number = number

-- the number of a change that was accepted (own)
abbrev pub number_after : SessionAnswer → ℕ → ℕ
number_after (answer.Accepted accepted) number = accepted
number_after said number = number

-- the number for why a device is not the wanted one, as `enum iolm_mismatch` (own)
abbrev pub mismatch_octet : IdentFault → ℕ
mismatch_octet ident.Vendor = 0
mismatch_octet ident.Device = 1
mismatch_octet ident.Revision = 2
mismatch_octet ident.NoIsdu = 3

-- the number for the fault of an exchange or a transfer, as `enum iolm_failure` (own)
abbrev pub transfer_octet : TransferFault → ℕ
transfer_octet (transfer.Refused error additional) = 0
transfer_octet transfer.Unexpected = 1
transfer_octet transfer.Size = 2
transfer_octet transfer.List = 3
transfer_octet transfer.Busy = 4
transfer_octet transfer.Memory = 5

-- the number for octets that are no answer, as `enum iolm_failure` (own)
abbrev pub isdu_octet : IsduFault → ℕ
isdu_octet isdu.Empty = 6
isdu_octet isdu.Reserved = 7
isdu_octet isdu.WrongService = 8
isdu_octet isdu.Length = 9
isdu_octet isdu.Check = 10

-- the number for why a port gets no permit to upload, as `enum iolm_failure` (own)
abbrev pub permit_octet : PermitFault → ℕ
permit_octet permit.Stopped = 11
permit_octet permit.NotAllowed = 12
permit_octet permit.WrongDevice = 13
permit_octet permit.Taken = 14

-- the number for why a port gets no permit to download, as `enum iolm_failure` (own)
abbrev pub download_octet : DownloadFault → ℕ
download_octet download.NotAllowed = 12
download_octet download.Empty = 17
download_octet download.WrongDevice = 13
download_octet download.Taken = 14
download_octet download.Same = 15
download_octet download.Memory = 5

-- the number for why the set of a finished upload is not stored, as `enum iolm_failure` (own)
abbrev pub storing_octet : StoringFault → ℕ
storing_octet unstored.Stopped = 11
storing_octet unstored.Exhausted = 16

-- the number for what has failed, as `enum iolm_failure` (own)
abbrev pub failure_octet : PortFault → ℕ
failure_octet (fault.Isdu why) = isdu_octet why
failure_octet (fault.Transfer why) = transfer_octet why
failure_octet (fault.Permit why) = permit_octet why
failure_octet (fault.Download why) = download_octet why
failure_octet (fault.Storing why) = storing_octet why

-- a status with no further detail (own)
abbrev pub plain_status : ℕ → Status
plain_status octet = record { status = octet; detail = 0; error = 0; additional = 0 }

-- a failed exchange or transfer, with ErrorCode and AdditionalCode if a device has refused a request (own)
abbrev pub transfer_status : TransferFault → Status
transfer_status (transfer.Refused error additional) = record { status = 10; detail = 0; error = error; additional = additional }
transfer_status failed = record { status = 10; detail = transfer_octet failed; error = 0; additional = 0 }

-- a failure, with ErrorCode and AdditionalCode if a device has refused a request (own)
abbrev pub failed_status : PortFault → Status
failed_status (fault.Transfer failed) = transfer_status failed
failed_status failed = record { status = 10; detail = failure_octet failed; error = 0; additional = 0 }

-- a status, as `struct iolm_status` (own)
abbrev pub status_struct : PortStatus → Status
status_struct status.Off = plain_status 0
status_struct status.Lost = plain_status 1
status_struct status.Starting = plain_status 2
status_struct status.Ready = plain_status 3
status_struct status.ReadyLocked = plain_status 4
status_struct status.ReadyEmpty = plain_status 5
status_struct status.Uploading = plain_status 6
status_struct status.Storing = plain_status 7
status_struct status.Downloading = plain_status 8
status_struct (status.Mismatch mismatch) = record { status = 9; detail = mismatch_octet mismatch; error = 0; additional = 0 }
status_struct (status.Failed failed) = failed_status failed

abbrev pub status_after : SessionAnswer → Status → Status
status_after (answer.Status told) status = status_struct told
status_after said status = status

-- the size and the checksum of a set, as `struct iolm_set`: all is 0 if there is no set (own)
abbrev pub set_struct : Option SetView → SetSize
set_struct None = record { is_there = false; checksum = 0; entries = 0; octets = 0 }
set_struct (Some set) = record { is_there = true; checksum = set.checksum; entries = set.entries; octets = set.octets }

-- the durable state of a port, as `struct iolm_port_view` (own)
abbrev pub view_struct : View → PortView
view_struct view = record {
  config = config_struct view.config;
  revision = view.revision;
  present = set_struct view.present;
  previous = set_struct view.previous;
}

abbrev pub view_after : SessionAnswer → PortView → PortView
view_after (answer.View told) view = view_struct told
view_after said view = view

-- an entry of a set, as `struct iolm_entry` (own)
abbrev pub entry_after : SessionAnswer → EntryStruct → EntryStruct
entry_after (answer.Entry key octets) entry =
    record { index = key.index; subindex = key.subindex; count = length octets.items; octets = filled 232 octets.items }
entry_after said entry = entry
