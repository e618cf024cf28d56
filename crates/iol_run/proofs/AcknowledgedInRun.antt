-- The number of a run's core does not fall, and it is the one that is reported as acknowledged.
use Rattle.std.proofs.Common.{◌≡◌, refl, ℕ, nat_le, Bool, true, false, List, [], ◌∷◌, length, Option, Some, None, ap, sym}
use Rattle.std.proofs.Common.{subst, arith}
use Rattle.iol_types.specs.Command.{command_of}
use Rattle.iol_disk.specs.Disk.{Disk}
use Rattle.iol_core.specs.Core.{CoreView}
use Rattle.iol_flush.specs.declared.need.Need.{Need}
use Rattle.iol_flush.specs.declared.need.Need.TheVariants as need
use Rattle.iol_front.specs.Fronts.{CommittedView}
use Rattle.iol_journal.specs.Journals.{JournalView}
use Rattle.iol_link.specs.Link.{LinkCall, LinkAnswer}
use Rattle.iol_core.specs.Events.{Event, Acknowledged, stamped}
use Rattle.iol_engine.proofs.Acknowledging.{Rises, more_rises, one_rises, silent_rises, stepped_rises, submit_rises}
use Rattle.iol_engine.proofs.PortCalls.{step_becomes}
use Rattle.iol_engine.specs.Acknowledged.{AcksRise}
use Rattle.iol_engine.specs.Ports.{PortsView}
use Rattle.iol_run.proofs.AllSteps.{all_tell}
use Rattle.iol_run.specs.CoreOnDisk.{CoreOnDiskView}
use Rattle.iol_run.specs.Ports.{StepsIf}
use Rattle.iol_run.specs.Runs.{RunView}
use Rattle.iol_run.specs.Schedules.{IsFresh}
use Rattle.iol_run.specs.Tasks.{HasMade}
use Rattle.iol_run.specs.Steps.{Does}
use Rattle.iol_run.specs.Turns.{Takes, HasCalled, Serves, IsTurn, met_by}
use Rattle.iol_run.specs.declared.turn.Turned.{Turned}
use Rattle.iol_run.specs.declared.turn.Turned.TheVariants.{Made, Idle, Waited}
use Rattle.iol_run.specs.declared.step.Step.{Step}
use Rattle.iol_run.specs.declared.step.Step.TheVariants.{Client, Port, Flush}

module _ (t : ℕ) {D : Type 0} where
  takes_rises : (old new : CoreOnDiskView D) (told : List Event) (turned : Turned) → Takes old new told turned
      → Rises old.core new.core (stamped t told)
  takes_rises old new told Made is = silent_rises t old.core new.core told is.5 (ap (λ (c : CoreView). c.number) is.1.others)
  takes_rises old new told Idle is = silent_rises t old.core new.core told is.2 (ap (λ (m : CoreOnDiskView D). m.core.number) is.1)
  takes_rises old new told Waited is = silent_rises t old.core new.core told is.2 (ap (λ (m : CoreOnDiskView D). m.core.number) is.1)

  module _ (disk : D → Disk) where
    called_rises : (old new : CoreOnDiskView D) (told : List Event) → HasCalled disk old new told → Rises old.core new.core (stamped t told)
    called_rises old new [] is = silent_rises t old.core new.core [] refl (ap (λ (c : CoreView). c.number) is.0)
    called_rises old new (e ∷ told) is =
        let same = ap (λ (c : CoreView). c.number) is.2 in
        subst (λ (es : List Event). Rises old.core new.core (stamped t es)) (sym is.1) (one_rises t old.core new.core _ (sym same) (omega
        (arith, same)))

    serves_rises : (needs : Need) (old new : CoreOnDiskView D) (told : List Event) (turned : Turned) → Serves disk needs old new told turned
        → Rises old.core new.core (stamped t told)
    serves_rises need.Batch old new told turned is = takes_rises old new told turned is
    serves_rises need.Disk old new told Made is = called_rises old new told is.2
    serves_rises need.Disk old new told Idle is = absurd is
    serves_rises need.BatchOrDisk old new told turned is = absurd is
    serves_rises need.Disk old new told Waited is = silent_rises t old.core new.core told is.2 (ap (λ (m : CoreOnDiskView D).
        m.core.number) is.1)
    serves_rises need.Publish old new told turned is = silent_rises t old.core new.core told is.1.4 (ap (λ (c : CoreView). c.number) is.1.2)
    serves_rises need.Stopped old new told turned is = silent_rises t old.core new.core told is.2 (ap (λ (m : CoreOnDiskView D).
        m.core.number) is.1)

    turn_rises : (committed : Option CommittedView) (old new : CoreOnDiskView D) (told : List Event) (turned : Turned)
        → IsTurn disk committed old new told turned → Rises old.core new.core (stamped t told)
    turn_rises (Some committed) old new told turned is =
        let number = ap (λ (c : CoreView). c.number) is.1.0 in
        subst (λ (es : List Event). Rises old.core new.core (stamped t es)) (sym is.1.3)
        (one_rises t old.core new.core (Acknowledged new.core.number) refl (omega (arith, number)))
    turn_rises None old new told turned is = serves_rises (met_by old) old new told turned is

    module _ {L : Type 0} (connection : L → ℕ) (allows : L → LinkCall → LinkAnswer → L → Type 0) where
      port_rises : (there : Bool) (port : ℕ) (old new : CoreOnDiskView D) (ports last : PortsView L) (told : List Event)
          → StepsIf connection allows there port old new ports last told → Rises old.core new.core (stamped t told)
      port_rises true port old new ports last told is =
          let becomes = step_becomes connection allows is.before is.after is.link is.linked old.core new.core is.called is.status
          is.steps_as in
          subst (λ (es : List Event). Rises old.core new.core (stamped t es)) (sym is.told_is)
          (stepped_rises t old.core new.core is.called is.status becomes.0 becomes.1)
      port_rises false port old new ports last told is = silent_rises t old.core new.core told is.2 (ap (λ (m : CoreOnDiskView D).
          m.core.number) is.0)

      step_rises : (step : Step) (old new : CoreOnDiskView D) (ports last : PortsView L) (told : List Event) (turned : Turned)
          → Does disk connection allows step old new ports last told turned → Rises old.core new.core (stamped t told)
      step_rises (Client change) old new ports last told turned is =
          subst (λ (es : List Event). Rises old.core new.core (stamped t es)) (sym is.2.4)
          (submit_rises t old.core new.core (command_of change) is.2.0 is.2.1)
      step_rises (Port port) old new ports last told turned is =
          port_rises (nat_le port (length ports.links)) port old new ports last told is.1
      step_rises Flush old new ports last told turned is = turn_rises old.committed old new told turned is.1

-- the number of a core that stays as it is does not fall
stays_risen : (old new : CoreView) → new ≡ old → Rises old new []
stays_risen old new same = silent_rises 0 old new [] refl (ap (λ (c : CoreView). c.number) same)

module _ {D L : Type 0} (disk : D → Disk) (connection : L → ℕ) (allows : L → LinkCall → LinkAnswer → L → Type 0) where
  -- in steps that were made from a fresh run the acknowledged numbers rise
  pub acks_rise : (steps : List Step) (waits : ℕ) (journal : JournalView D) (links : List L) (old new : RunView D L)
      → IsFresh disk journal links old → HasMade disk connection allows steps waits old new → AcksRise journal.standing.number new.events
  acks_rise steps waits journal links old new fresh made =
      subst (λ (n : ℕ). AcksRise n new.events) fresh.number
      (all_tell disk connection allows (λ (m : CoreOnDiskView D). m.core) Rises stays_risen more_rises
      (λ t. step_rises t disk connection allows) steps waits journal links old new fresh made).rise
