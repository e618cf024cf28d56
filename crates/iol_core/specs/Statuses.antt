-- Refusals of commands, work and status of ports as a trace reports them, as plain data.
use Rattle.std.specs.Prelude.{ℕ, Option}
use Rattle.iol_types.specs.declared.command.CommandFault.{CommandFault}
use Rattle.iol_types.specs.declared.config.PortConfig.{PortConfig}
use Rattle.iol_link.specs.declared.validation.IdentFault.{IdentFault}

-- why a command is refused: the core has stopped, the command does not pass, the queue is full, or no number is left
-- (format, Texts)
pub data Refusal : Type 0 where
  Stopped : Refusal
  Command : (fault : CommandFault) → Refusal
  QueueFull : Refusal
  Exhausted : Refusal

-- what a port works with: its configuration and revision, and the checksum of its durable set, if it has one (own)
pub record Work : Type 0 where
  pub config : PortConfig
  pub revision : ℕ
  pub checksum : Option ℕ

-- why a port has failed: a fault of a transfer or of an ISDU, or a refusal of the core (format, Texts)
pub data Failure : Type 0 where
  Refused : (error additional : ℕ) → Failure
  Unexpected : Failure
  Size : Failure
  List : Failure
  Busy : Failure
  Memory : Failure
  Empty : Failure
  Reserved : Failure
  WrongService : Failure
  Length : Failure
  Check : Failure
  Stopped : Failure
  NotAllowed : Failure
  WrongDevice : Failure
  Taken : Failure
  Same : Failure
  Exhausted : Failure
  NoSet : Failure

-- the status of a port (format, Texts)
pub data Status : Type 0 where
  Off : Status
  Lost : Status
  Starting : Status
  Ready : Status
  ReadyLocked : Status
  ReadyEmpty : Status
  Uploading : Status
  Storing : Status
  Downloading : Status
  Mismatch : (fault : IdentFault) → Status
  Failed : (failure : Failure) → Status
