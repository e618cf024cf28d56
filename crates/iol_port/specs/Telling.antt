-- The status of a port, as a trace reports it.
use Rattle.iol_link.specs.declared.faults.IsduFault.{IsduFault}
use Rattle.iol_link.specs.declared.faults.IsduFault.TheVariants as isdu
use Rattle.iol_transfer.specs.declared.fault.TransferFault.{TransferFault}
use Rattle.iol_transfer.specs.declared.fault.TransferFault.TheVariants as transfer
use Rattle.iol_core.specs.declared.upload.PermitFault.{PermitFault}
use Rattle.iol_core.specs.declared.upload.PermitFault.TheVariants as permit
use Rattle.iol_core.specs.declared.download.DownloadFault.{DownloadFault}
use Rattle.iol_core.specs.declared.download.DownloadFault.TheVariants as download
use Rattle.iol_port.specs.declared.fault.StoringFault.{StoringFault}
use Rattle.iol_port.specs.declared.fault.StoringFault.TheVariants as unstored
use Rattle.iol_port.specs.declared.fault.PortFault.{PortFault}
use Rattle.iol_port.specs.declared.fault.PortFault.TheVariants as fault
use Rattle.iol_port.specs.declared.status.PortStatus.{PortStatus}
use Rattle.iol_port.specs.declared.status.PortStatus.TheVariants as status
use Rattle.iol_core.specs.Statuses as trace

-- octets that are no answer, as a trace reports them (own)
abbrev pub isdu_told : IsduFault → trace.Failure
isdu_told isdu.Empty = trace.Empty
isdu_told isdu.Reserved = trace.Reserved
isdu_told isdu.WrongService = trace.WrongService
isdu_told isdu.Length = trace.Length
isdu_told isdu.Check = trace.Check

-- the end of an exchange or a transfer in a fault, as a trace reports it (own)
abbrev pub transfer_told : TransferFault → trace.Failure
transfer_told (transfer.Refused error additional) = trace.Refused error additional
transfer_told transfer.Unexpected = trace.Unexpected
transfer_told transfer.Size = trace.Size
transfer_told transfer.List = trace.List
transfer_told transfer.Busy = trace.Busy
transfer_told transfer.Memory = trace.Memory

-- a refused permit to upload, as a trace reports it (own)
abbrev pub permit_told : PermitFault → trace.Failure
permit_told permit.Stopped = trace.Stopped
permit_told permit.NotAllowed = trace.NotAllowed
permit_told permit.WrongDevice = trace.WrongDevice
permit_told permit.Taken = trace.Taken

-- a refused permit to download, as a trace reports it: a set that is not stored differs there from an answer of no octet (own)
abbrev pub download_told : DownloadFault → trace.Failure
download_told download.NotAllowed = trace.NotAllowed
download_told download.Empty = trace.NoSet
download_told download.WrongDevice = trace.WrongDevice
download_told download.Taken = trace.Taken
download_told download.Same = trace.Same
download_told download.Memory = trace.Memory

-- a set that is not stored after its upload, as a trace reports it (own)
abbrev pub storing_told : StoringFault → trace.Failure
storing_told unstored.Stopped = trace.Stopped
storing_told unstored.Exhausted = trace.Exhausted

-- why a port has failed, as a trace reports it (own)
abbrev pub failure_told : PortFault → trace.Failure
failure_told (fault.Isdu why) = isdu_told why
failure_told (fault.Transfer why) = transfer_told why
failure_told (fault.Permit why) = permit_told why
failure_told (fault.Download why) = download_told why
failure_told (fault.Storing why) = storing_told why

-- the status of a port, as a trace reports it (own)
abbrev pub status_told : PortStatus → trace.Status
status_told status.Off = trace.Off
status_told status.Lost = trace.Lost
status_told status.Starting = trace.Starting
status_told status.Ready = trace.Ready
status_told status.ReadyLocked = trace.ReadyLocked
status_told status.ReadyEmpty = trace.ReadyEmpty
status_told status.Uploading = trace.Uploading
status_told status.Storing = trace.Storing
status_told status.Downloading = trace.Downloading
status_told (status.Mismatch why) = trace.Mismatch why
status_told (status.Failed why) = trace.Failed (failure_told why)
