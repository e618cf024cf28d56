-- The reasons why a client's call is refused.
use Rattle.std.specs.Prelude.{◌≡◌, ℕ, ◌≤◌, Some, None}
use Rattle.iol_types.specs.Command.{CommandValue}
use Rattle.iol_types.specs.State.{State, port_numbered}
use Rattle.iol_core.specs.Core.{CoreView, IsCore, live_number}
use Rattle.iol_core.specs.Submit.{submit_fault}
use Rattle.iol_core.specs.declared.ticket.SubmitFault.{SubmitFault}
use Rattle.iol_front.specs.Fronts.{Start}
use Rattle.iol_master.specs.declared.client.CallFault.{CallFault}
use Rattle.iol_master.specs.declared.client.CallFault.TheVariants as call
use Rattle.iol_master.specs.declared.client.ReadFault.{ReadFault}
use Rattle.iol_master.specs.declared.client.ReadFault.TheVariants as read

-- a master has no such port (own)
abbrev pub IsUnknown : State → ℕ → Type 0
IsUnknown state port = port_numbered state port ≡ None

-- a core of this front, which had no fewer commands than a client had seen, refuses a command for its first cause (own)
pub record IsRefused (start : Start) (seen : ℕ) (command : CommandValue) (fault : SubmitFault) : Type 0 where
  pub core : CoreView
  pub core_is : IsCore start core
  pub reached : seen ≤ live_number core
  pub cause : submit_fault core command ≡ Some fault

-- an accepted command is not known to be durable: the disk failed, or memory ran out for its batch (own)
abbrev pub IsUntold : CallFault → Type 0
IsUntold call.Unsure = Unit {0}
IsUntold call.Unwritten = Unit {0}
IsUntold fault = ⊥

-- a client that had seen the commands up to this number has no receipt: a core of this front refuses its command. If memory ran out or the
-- disk failed, nothing more is known (own)
abbrev pub IsCallFault : Start → ℕ → CommandValue → CallFault → Type 0
IsCallFault start seen command (call.Submit fault) = IsRefused start seen command fault
IsCallFault start seen command fault = Unit {0}

-- a client that had seen the commands up to this number reads nothing: the master has no such port, memory ran out for one that it has, or
-- it answered with fewer commands (own)
abbrev pub IsReadFault : State → ℕ → ℕ → ReadFault → Type 0
IsReadFault state port count read.UnknownPort = IsUnknown state port
IsReadFault state port count read.Memory = IsUnknown state port → ⊥
IsReadFault state port count (read.Behind seen) = seen ≡ count
