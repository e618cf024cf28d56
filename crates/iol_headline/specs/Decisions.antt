-- A transfer begins only after the device was identified and examined, and the transfer was decided.
use Rattle.std.specs.Prelude.{◌≡◌, ℕ, List, [], ◌∷◌, ◌++◌, length, slice_index, None}
use Rattle.iol_types.specs.declared.key.TheConstants.{DATA_STORAGE}
use Rattle.iol_link.specs.Page.{page_of}
use Rattle.iol_link.specs.Validation.{ident_fault}
use Rattle.iol_transfer.specs.Property.{property_of}
use Rattle.iol_transfer.specs.declared.object.TheConstants.{STATE_PROPERTY, PARAMETER_CHECKSUM}
use Rattle.iol_transfer.specs.Exchanges.{Exchange, read_of, Follows}
use Rattle.iol_transfer.specs.Upload.{number_of}
use Rattle.iol_port.specs.Decision.{decide}
use Rattle.iol_port.specs.declared.decision.Decision.{Decision}
use Rattle.iol_port.specs.declared.decision.Decision.TheVariants as decision
use Rattle.iol_core.specs.Events.{Event, Page, Attended, Changed, Stamp}
use Rattle.iol_core.specs.Own.{own}
use Rattle.iol_core.specs.Statuses.{Work, Uploading, Downloading}
use Rattle.iol_headline.specs.Conversations.{Converses}

-- a port's own events end with the page of its device, on a connection; there one read of State_Property, one octet, and one of
-- Parameter_Checksum, four octets, each sent again at Device busy; and the work of the port. The page fits the work, and the two
-- reads and the work lead to this decision (own)
pub record IsExamined (is : Decision) (port : ℕ) (events : List Event) : Type 0 where
  pub before : List Event
  pub connection : ℕ
  pub octets : List ℕ
  pub told : List Event
  pub work : Work
  pub conversation : List Exchange
  pub state : List ℕ
  pub sum : List ℕ
  pub split : events ≡ before ++ Page port connection octets ∷ told ++ Attended port work ∷ []
  pub talk : Converses port connection told conversation
  pub reads : Follows conversation (read_of DATA_STORAGE STATE_PROPERTY state ∷ read_of DATA_STORAGE PARAMETER_CHECKSUM sum ∷ [])
  pub one : length state ≡ 1
  pub four : length sum ≡ 4
  pub wanted : ident_fault work.config (page_of octets) ≡ None
  pub decided :
      decide work.config.validation (property_of (slice_index state 0)).state (property_of (slice_index state 0)).flag (number_of sum)
      work.checksum ≡ is

-- a port is `uploading` or `downloading` only if that was decided (own)
abbrev pub DecidedFirst : List Stamp → Event → Type 0
DecidedFirst before (Changed port Uploading) = IsExamined decision.Upload port (own port before)
DecidedFirst before (Changed port Downloading) = IsExamined decision.Download port (own port before)
DecidedFirst before _ = Unit {0}
