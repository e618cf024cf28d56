-- The outcomes of the requests of a port.
use Rattle.std.specs.Prelude.{◌≡◌, ◌+◌, ◌-◌, ◌<◌, ◌≤◌, ℕ, List, length, take, Some}
use Rattle.iol_types.specs.Command.{CommandValue, command_of, port_asked}
use Rattle.iol_types.specs.State.{Port, port_numbered}
use Rattle.iol_front.specs.Fronts.{Start}
use Rattle.iol_core.specs.Standing.{state_at}
use Rattle.iol_core.specs.declared.port.View.{View}
use Rattle.iol_headline.specs.Lists.{IsLawfulList, SetsWereUploaded}
use Rattle.iol_master.specs.Receipts.{StandsAt}
use Rattle.iol_master.specs.Faults.{IsCallFault, IsReadFault}
use Rattle.iol_master.specs.declared.client.CallFault.{CallFault}
use Rattle.iol_master.specs.declared.client.CallFault.TheVariants as call
use Rattle.iol_master.specs.declared.client.ReadFault.{ReadFault}
use Rattle.iol_master.specs.declared.client.ReadFault.TheVariants as read
use Rattle.iol_answers.specs.declared.refusal.Refusal.{Refusal}
use Rattle.iol_answers.specs.declared.refusal.Refusal.TheVariants as refusal
use Rattle.iol_answers.specs.declared.answer.RequestAnswer.{RequestAnswer}
use Rattle.iol_answers.specs.declared.answer.RequestAnswer.TheVariants as answer
use Rattle.iol_serve.specs.declared.asking.Outcome.{Outcome}
use Rattle.iol_serve.specs.declared.asking.Outcome.TheVariants.{Durable, Found, Refused}
use Rattle.iol_serve.specs.declared.asking.Task.{Task}
use Rattle.iol_serve.specs.declared.asking.Task.TheVariants.{Ask, Read}

-- the refusal that answers a fault of a change (format, Lines of a serving master)
abbrev pub call_refusal : CallFault → Refusal
call_refusal call.Memory = refusal.Memory
call_refusal (call.Submit fault) = refusal.Submit fault
call_refusal call.Unsure = refusal.Unsure
call_refusal call.Unwritten = refusal.Unwritten

-- the refusal that answers a fault of a read (format, Lines of a serving master)
abbrev pub read_refusal : ReadFault → Refusal
read_refusal read.UnknownPort = refusal.UnknownPort
read_refusal read.Memory = refusal.Memory
read_refusal (read.Behind seen) = refusal.Behind

-- the outcome of a change: it is durable, or it is refused for this cause, and nothing more is seen. A durable change has a number above
-- all that its client had seen, and has it in the list that the client has seen since (own)
abbrev pub HasAsked : Start → List CommandValue → List CommandValue → CommandValue → Outcome → Type 0
HasAsked start before after command (Durable number) = (start.number + length before < number) × StandsAt start after number command
HasAsked start before after command (Found port view) = ⊥
HasAsked start before after command (Refused why) =
    (after ≡ before) × (fault : CallFault) × (why ≡ call_refusal fault) × IsCallFault start (start.number + length before) command fault

-- a view is the state of a port after a number of commands: no fewer than a client had seen before. They are among those that it has seen
-- since, and a lawful trace accepted them. Each set of the port was there at the start, or was uploaded whole (own)
pub record IsRead (start : Start) (before after : List CommandValue) (port : ℕ) (view : View) : Type 0 where
  pub seen_before : start.number + length before ≤ view.number
  pub seen_since : view.number ≤ start.number + length after
  pub state : port_numbered (state_at start after view.number) port ≡ Some view.port
  pub lawful : IsLawfulList start view.number (take (view.number - start.number) after)
  pub sets : SetsWereUploaded start view.number (take (view.number - start.number) after) port view.port

-- the outcome of a read: the port is read; or it is refused for a cause of a client that has seen no fewer commands than before (own)
abbrev pub HasRead : Start → List CommandValue → List CommandValue → ℕ → Outcome → Type 0
HasRead start before after port (Durable number) = ⊥
HasRead start before after port (Found number view) = (number ≡ port) × IsRead start before after port view
HasRead start before after port (Refused why) =
    (seen : ℕ) × (start.number + length before ≤ seen) × (fault : ReadFault) × (why ≡ read_refusal fault)
    × IsReadFault start.state port seen fault

-- the port of a task (own)
abbrev pub port_of : Task → ℕ
port_of (Ask change) = port_asked change
port_of (Read port) = port

-- the outcome of a task: that of its change or of its read (own)
abbrev pub HasDone : Start → List CommandValue → List CommandValue → Task → Outcome → Type 0
HasDone start before after (Ask change) outcome = HasAsked start before after (command_of change) outcome
HasDone start before after (Read port) outcome = HasRead start before after port outcome

-- the answer is this port in this state (own)
abbrev pub IsPortAnswer : ℕ → Port → RequestAnswer → Type 0
IsPortAnswer port state (answer.Port number told) = (number ≡ port) × (told.now ≡ state)
IsPortAnswer port state other = ⊥

-- the answer reports the outcome of a task (own)
abbrev pub SaysOutcome : Outcome → RequestAnswer → Type 0
SaysOutcome (Durable number) said = said ≡ answer.Receipt number
SaysOutcome (Found port view) said = IsPortAnswer port view.port said
SaysOutcome (Refused refusal) said = said ≡ answer.Refused refusal
