-- The words for mismatches and failures.
use Rattle.std.specs.Prelude.{ℕ, List, ◌++◌, codes}
use Rattle.iol_link.specs.declared.validation.IdentFault.{IdentFault}
use Rattle.iol_link.specs.declared.validation.IdentFault.TheVariants as ident
use Rattle.iol_core.specs.Statuses as trace
use Rattle.iol_texts.specs.ErrorTypes.{error_text}

-- why a device is not the one that its port requires, and what to do (format, Explained runs)
abbrev pub mismatch_words : IdentFault → List ℕ
mismatch_words ident.Vendor = codes "another VendorID than is configured: connect the configured device, or configure this one"
mismatch_words ident.Device = codes "another DeviceID than is configured: connect the configured device, or configure this one"
mismatch_words ident.Revision = codes "a RevisionID below 11, V1.1: connect a device of V1.1, or configure validation 00 or 01"
mismatch_words ident.NoIsdu = codes "the device supports no ISDUs: connect one that does, or configure validation 00 to 02"

-- why a port has failed, and what to do, without the octets of a refusal (format, Explained runs)
abbrev pub failure_cause : trace.Failure → List ℕ
failure_cause (trace.Refused error additional) = codes "the device refused a request"
failure_cause trace.Unexpected = codes "the device answered something else than was asked: check the device, and connect it again"
failure_cause trace.Size = codes "the device's set counts over 4,096 octets: configure the port with validation 00 to 02"
failure_cause trace.List = codes "the device's Index_List cannot be followed: check the device's Data Storage, and connect it again"
failure_cause trace.Busy = codes "the device was busy sixteen times in a row: wait until it is idle, and connect it again"
failure_cause trace.Memory = codes "out of memory: give the master more, and connect the device again"
failure_cause trace.Empty = codes "the answer has no octet: check the cable, and connect the device again"
failure_cause trace.Reserved = codes "the answer has a reserved I-Service or length: check the cable, and connect the device again"
failure_cause trace.WrongService = codes "the answer is of another service: check the cable, and connect the device again"
failure_cause trace.Length = codes "the answer has a wrong count of octets: check the cable, and connect the device again"
failure_cause trace.Check = codes "the answer has a wrong CHKPDU: check the cable, and connect the device again"
failure_cause trace.Stopped = codes "a disk call has failed, and nothing more is stored: replace the disk, and start the master anew"
failure_cause trace.NotAllowed = codes "the port keeps no set, or was configured meanwhile: configure IOL_MANUAL with validation 03 or 04"
failure_cause trace.WrongDevice = codes "the port or its set is for another device: configure the port for this one"
failure_cause trace.Taken = codes "a transfer of the port is not yet done: connect the device again later"
failure_cause trace.Same = codes "the device has the stored set already: connect it again"
failure_cause trace.Exhausted = codes "no command number is left: format a new disk"
failure_cause trace.NoSet = codes "no set is stored for the port any more: connect the device again"

-- why a port has failed, and what to do (format, Explained runs)
abbrev pub failure_words : trace.Failure → List ℕ
failure_words (trace.Refused error additional) =
    codes "the device refused a request, " ++ (error_text error additional ++ codes ": see its manual, and connect it again")
failure_words failure = failure_cause failure
