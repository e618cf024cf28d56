-- The words for a request.
use Rattle.std.specs.Prelude.{ℕ, ◌<◌, List, ◌++◌, slice_index, codes, Result, Ok, Err}
use Rattle.std.specs.Option.{option_map_or}
use Rattle.iol_transfer.specs.declared.command.DsCommand.{DsCommand}
use Rattle.iol_transfer.specs.declared.command.DsCommand.TheVariants.{UploadStart, UploadEnd, DownloadStart, DownloadEnd, Break}
use Rattle.iol_link.specs.declared.faults.IsduFault.{IsduFault}
use Rattle.iol_link.specs.declared.faults.IsduFault.TheVariants as isdu
use Rattle.iol_link.specs.declared.messages.Request.{Request}
use Rattle.iol_link.specs.declared.messages.Request.TheVariants as request
use Rattle.iol_explain.specs.Objects.{object_of, object_place, command_in, octet_words}
use Rattle.iol_explain.specs.declared.object.Object.{Object}
use Rattle.iol_explain.specs.declared.object.Object.TheVariants.{Command}
use Rattle.iol_explain.specs.declared.request_words.Asked.{Asked}
use Rattle.iol_explain.specs.declared.request_words.Asked.TheVariants.{Read, Write, Malformed}

-- the object that a request reads or writes, or that its octets are malformed (own)
abbrev pub asked_by : Result Request IsduFault → Asked
asked_by (Ok (request.Read index subindex)) = Read (object_of index subindex)
asked_by (Ok (request.Write index subindex octets)) = Write (object_of index subindex)
asked_by (Err fault) = Malformed

-- the name of a command to the Data Storage of a device (standard, Data Storage object)
abbrev pub command_name : DsCommand → List ℕ
command_name UploadStart = codes "DS_UploadStart"
command_name UploadEnd = codes "DS_UploadEnd"
command_name DownloadStart = codes "DS_DownloadStart"
command_name DownloadEnd = codes "DS_DownloadEnd"
command_name Break = codes "DS_Break"

-- what is written to DS_Command, in words (format, Explained runs)
abbrev pub command_words : List ℕ → List ℕ
command_words octets =
    option_map_or (λ command. codes " " ++ command_name command) (command_in octets) (codes ", no command:" ++ octet_words octets)

-- what is written to an object, in words (format, Explained runs)
abbrev pub written_words : Object → List ℕ → List ℕ
written_words Command octets = command_words octets
written_words object octets = codes ":" ++ octet_words octets

-- the words for the check of the codec that octets fail (format, Explained runs)
abbrev pub isdu_fault_words : IsduFault → List ℕ
isdu_fault_words isdu.Empty = codes "Empty: there is no octet"
isdu_fault_words isdu.Reserved = codes "Reserved: the first octets have a reserved I-Service, Length or ExtLength"
isdu_fault_words isdu.WrongService = codes "WrongService: the first octet has a service that is not to come here"
isdu_fault_words isdu.Length = codes "Length: there are not as many octets as are stated, or as the service carries"
isdu_fault_words isdu.Check = codes "Check: the last octet, CHKPDU, does not make the XOR of all octets 00"

-- the words for a request, or for the first fault of its octets (format, Explained runs)
abbrev pub request_words : Result Request IsduFault → List ℕ
request_words (Ok (request.Read index subindex)) = codes "reads " ++ object_place (object_of index subindex)
request_words (Ok (request.Write index subindex octets)) =
    codes "writes " ++ (object_place (object_of index subindex) ++ written_words (object_of index subindex) octets.items)
request_words (Err fault) = codes "malformed, " ++ isdu_fault_words fault

-- each of these numbers is an octet (own)
abbrev pub AreOctets : List ℕ → Type 0
AreOctets octets = (place : ℕ) → slice_index octets place < 256
