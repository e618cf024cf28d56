-- What was reported of a port, by which its decision is explained.
use Rattle.std.specs.Prelude.{ℕ, not, if◌then◌else◌, List, Option, Some, None, Result, Ok}
use Rattle.iol_types.specs.Config.{restores}
use Rattle.iol_types.specs.declared.config.Validation.TheVariants.{NoCheck}
use Rattle.iol_transfer.specs.Property.{property_of}
use Rattle.iol_link.specs.declared.faults.IsduFault.{IsduFault}
use Rattle.iol_link.specs.declared.messages.Answer.{Answer}
use Rattle.iol_link.specs.declared.messages.Answer.TheVariants.{ReadOk}
use Rattle.iol_core.specs.Statuses as trace
use Rattle.iol_explain.specs.Objects.{one_octet, four_octets}
use Rattle.iol_texts.specs.Rows.{row_of}
use Rattle.iol_explain.specs.declared.known.Known.{Known}
use Rattle.iol_explain.specs.declared.object.Object.TheVariants as object
use Rattle.iol_explain.specs.declared.request_words.Asked.{Asked}
use Rattle.iol_explain.specs.declared.request_words.Asked.TheVariants.{Read}
use Rattle.iol_texts.specs.declared.row.Row.{Row}
use Rattle.iol_texts.specs.declared.row.Row.TheVariants.{NotKept}

-- what is known of a port before anything is reported of it (own)
abbrev pub blank : Known
blank = record { validation = NoCheck; stored = None; property = None; checksum = None }

-- what is known of a port after the core has reported its work (own)
abbrev pub attended : Known → trace.Work → Known
attended known work = record known { validation = work.config.validation; stored = work.checksum }

-- what is known of a port after it has read these octets of an object (own)
abbrev pub read_known : Known → Asked → List ℕ → Known
read_known known (Read object.StateProperty) octets = record known { property = one_octet octets }
read_known known (Read object.Checksum) octets = record known { checksum = four_octets octets }
read_known known asked octets = known

-- what is known of a port after an exchange (own)
abbrev pub heard : Known → Asked → Result Answer IsduFault → Known
heard known asked (Ok (ReadOk octets)) = read_known known asked octets.items
heard known asked answer = known

-- what is known after a change of the port's status: what was read of a device counts up to the transfer that it leads to (own)
abbrev pub started : Known → trace.Status → Known
started known trace.Starting = record known { property = None; checksum = None }
started known trace.Lost = record known { property = None; checksum = None }
started known trace.Uploading = record known { property = None; checksum = None }
started known trace.Downloading = record known { property = None; checksum = None }
started known status = known

-- the line that applies to a device with this State_Property and this Parameter_Checksum, if both are known (own)
abbrev pub row_read : Known → Option ℕ → Option ℕ → Option Row
row_read known (Some octet) (Some checksum) =
    Some (row_of known.validation (property_of octet).state (property_of octet).flag checksum known.stored)
row_read known property checksum = None

-- the line of the table of decisions that applies to a port, if what it depends on is known (own)
abbrev pub row_known : Known → Option Row
row_known known = if not (restores known.validation) then Some NotKept else row_read known known.property known.checksum
