-- What a step of a schedule does.
use Rattle.std.specs.Prelude.{◌≡◌, ℕ, List, Result}
use Rattle.iol_types.specs.Command.{CommandValue, command_of}
use Rattle.iol_disk.specs.Disk.{Disk}
use Rattle.iol_core.specs.Submit.{IsSubmit}
use Rattle.iol_core.specs.declared.ticket.SubmitFault.{SubmitFault}
use Rattle.iol_link.specs.Link.{LinkCall, LinkAnswer}
use Rattle.iol_core.specs.Events.{Event}
use Rattle.iol_engine.specs.Submitted.{submit_told}
use Rattle.iol_run.specs.CoreOnDisk.{CoreOnDiskView}
use Rattle.iol_engine.specs.Ports.{PortsView}
use Rattle.iol_run.specs.Ports.{StepsPort}
use Rattle.iol_run.specs.Turns.{IsTurn}
use Rattle.iol_run.specs.declared.turn.Turned.{Turned}
use Rattle.iol_run.specs.declared.turn.Turned.TheVariants.{Made}
use Rattle.iol_run.specs.declared.step.Step.{Step}
use Rattle.iol_run.specs.declared.step.Step.TheVariants.{Client, Port, Flush}

-- a client's command is accepted, or refused, as the core says (own)
abbrev pub Submits : {D : Type 0} → CommandValue → CoreOnDiskView D → CoreOnDiskView D → List Event → Type 0
Submits command old new told =
    (answer : Result ℕ SubmitFault) × IsSubmit old.core command new.core answer × (new.flusher ≡ old.flusher)
    × (new.committed ≡ old.committed)
    × (told ≡ submit_told command answer)

module _ {D L : Type 0} (disk : D → Disk) (number : L → ℕ) (steps : L → LinkCall → LinkAnswer → L → Type 0) where
  -- a step: a client's command, the step of a port, or a turn of the flusher; only a port's step changes a port (own)
  abbrev pub Does : Step → CoreOnDiskView D → CoreOnDiskView D → PortsView L → PortsView L → List Event → Turned → Type 0
  Does (Client change) old new ports last told turned = (turned ≡ Made) × (last ≡ ports) × Submits (command_of change) old new told
  Does (Port port) old new ports last told turned = (turned ≡ Made) × StepsPort number steps port old new ports last told
  Does Flush old new ports last told turned = (last ≡ ports) × IsTurn disk old.committed old new told turned
