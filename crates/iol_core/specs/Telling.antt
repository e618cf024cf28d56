-- Answers of a core as a trace reports them.
use Rattle.iol_core.specs.declared.port.Work as core
use Rattle.iol_core.specs.declared.ticket.SubmitFault.{SubmitFault}
use Rattle.iol_core.specs.declared.ticket.SubmitFault.TheVariants as fault
use Rattle.iol_core.specs.Statuses.{Refusal, Stopped, Command, QueueFull, Exhausted, Work}

-- the refusal that a trace reports for a fault (own)
abbrev pub refusal_of : SubmitFault → Refusal
refusal_of fault.Stopped = Stopped
refusal_of (fault.Command cause) = Command cause
refusal_of fault.QueueFull = QueueFull
refusal_of fault.Exhausted = Exhausted

-- the work that a trace reports for a port's work (own)
abbrev pub work_told : core.Work → Work
work_told work = record { config = work.config; revision = work.revision; checksum = work.checksum }
