-- The answers of a master.
use Rattle.std.specs.Prelude.{◌≡◌, ◌-◌, ℕ, Bool, true, false, Result, slice_get}
use Rattle.iol_types.specs.Command.{command_of}
use Rattle.iol_types.specs.State.{port_numbered}
use Rattle.iol_core.specs.Core.{live_number}
use Rattle.iol_core.specs.declared.ticket.SubmitFault.{SubmitFault}
use Rattle.iol_engine.specs.HandedSteps.{status_in}
use Rattle.iol_engine.specs.declared.handed.Answered.TheVariants as answered
use Rattle.iol_handed.specs.DiskSide.{AsksDisk, HasReported}
use Rattle.iol_handed.specs.Master.{HandedMasterView}
use Rattle.iol_handed.specs.Notes.{event_kept}
use Rattle.iol_handed.specs.PortSide.{AsksPort, HandsPort, IsNoted, Loses, woken}
use Rattle.iol_handed.specs.Submits.{Submits}
use Rattle.iol_handed.specs.declared.port_answer.PortAnswer.{PortAnswer}
use Rattle.iol_handed.specs.declared.reports.DiskAnswer.{DiskAnswer}
use Rattle.iol_handed.specs.Answering.{IsEntryOf, disk_answer, port_answer, status_answer, submit_answer, view_answer}
use Rattle.iol_handed.specs.Flashes.{unknown_disk}
use Rattle.iol_handed.specs.Sessions.{SessionView, ended, running}
use Rattle.iol_handed.specs.declared.ask.SessionAnswer.{SessionAnswer}
use Rattle.iol_handed.specs.declared.ask.SessionAnswer.TheVariants as answer
use Rattle.iol_handed.specs.declared.ask.Ask.{Ask}
use Rattle.iol_handed.specs.declared.ask.Ask.TheVariants as ask
use Rattle.iol_handed.specs.declared.ask.PortAsk.{PortAsk}
use Rattle.iol_handed.specs.declared.ask.PortAsk.TheVariants as port

-- a request about a port is made of that port (own)
abbrev pub PortServes : PortAsk → ℕ → HandedMasterView → HandedMasterView → PortAnswer → Type 0
PortServes port.Next number old new told = AsksPort number old new told
PortServes port.Wake number old new told = IsNoted number woken old new told
PortServes (port.Page octets) number old new told = HandsPort number (answered.Page octets) old new told
PortServes (port.Answer octets) number old new told = HandsPort number (answered.Octets octets) old new told
PortServes port.Lost number old new told = Loses number old new told
PortServes (port.Event code) number old new told =
    IsNoted number (λ notes. record notes { event = event_kept notes.event code }) old new told

-- the answer by whether a call was in hand (own)
abbrev pub done_answer : Bool → SessionAnswer
done_answer true = answer.Done
done_answer false = answer.Misfit

-- a master answers as its own calls do; a request that only reads changes nothing (own)
abbrev pub Answers : Ask → HandedMasterView → HandedMasterView → SessionAnswer → Type 0
Answers (ask.Submit change) old new said =
    (told : Result ℕ SubmitFault) × Submits (command_of change) old new told × (said ≡ submit_answer told)
Answers ask.DiskNext old new said = (told : DiskAnswer) × AsksDisk unknown_disk old new told × (said ≡ disk_answer told)
Answers (ask.DiskDone made) old new said = (told : Bool) × HasReported made old new told × (said ≡ done_answer told)
Answers (ask.DiskRead octets) old new said = (said ≡ answer.Misfit) × (new ≡ old)
Answers (ask.Port number asked) old new said =
    (told : PortAnswer) × PortServes asked number old new told × (said ≡ port_answer told)
Answers (ask.Status number) old new said =
    (said ≡ status_answer (status_in (slice_get old.made.machines (number - 1)))) × (new ≡ old)
Answers ask.Numbers old new said =
    (said ≡ answer.Numbers old.made.master.core.number (live_number old.made.master.core)) × (new ≡ old)
Answers (ask.View number) old new said =
    (said ≡ view_answer (port_numbered old.made.master.core.durable number)) × (new ≡ old)
Answers (ask.Entry number which place) old new said =
    IsEntryOf (port_numbered old.made.master.core.durable number) which place said × (new ≡ old)
Answers (ask.Open flash) old new said = (said ≡ answer.Misfit) × (new ≡ old)
Answers ask.End old new said = (said ≡ answer.Misfit) × (new ≡ old)

-- a request is to end the session (own)
abbrev pub is_end : Ask → Bool
is_end ask.End = true
is_end asked = false

-- the master has ended, or it answers and continues (own)
abbrev pub EndsOrAnswers : Bool → Ask → HandedMasterView → SessionView → SessionAnswer → Type 0
EndsOrAnswers true asked master new said = (said ≡ answer.Closed) × (new ≡ ended)
EndsOrAnswers false asked master new said = (after : HandedMasterView) × (new ≡ running after) × Answers asked master after said

abbrev pub RunningServes : Ask → HandedMasterView → SessionView → SessionAnswer → Type 0
RunningServes asked master new said = EndsOrAnswers (is_end asked) asked master new said
