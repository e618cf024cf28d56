-- The moments of a run: one more with each event.
use Rattle.std.proofs.Common.{◌≡◌, refl, ◌≤◌, ◌+◌, ℕ, nat_le, Bool, true, false, List, [], ◌∷◌, ◌++◌, length, Option, Some, None, Result}
use Rattle.std.proofs.Common.{Ok, Err, ap, sym, ◌∙◌, subst, arith, append-nil}
use Rattle.iol_types.specs.Command.{CommandValue, command_of}
use Rattle.iol_disk.specs.Content.{clock}
use Rattle.iol_disk.specs.Disk.{Disk}
use Rattle.iol_core.specs.Telling.{refusal_of}
use Rattle.iol_core.specs.declared.ticket.SubmitFault.{SubmitFault}
use Rattle.iol_flush.proofs.RunLaws.{marked_later, acknowledges}
use Rattle.iol_flush.specs.Flushing.{IsFlushing}
use Rattle.iol_flush.specs.Stages.{FlusherView, disk_of}
use Rattle.iol_flush.specs.declared.need.Need.{Need}
use Rattle.iol_flush.specs.declared.need.Need.TheVariants as need
use Rattle.iol_flush.specs.declared.stage.FlushStage.{FlushStage}
use Rattle.iol_flush.specs.declared.stage.FlushStage.TheVariants.{Resting, Opening, Given, Checkpointing, Writing, Publishing, Failed}
use Rattle.iol_front.specs.Fronts.{Start, CommittedView}
use Rattle.iol_journal.specs.Runs.{Mark}
use Rattle.iol_core.proofs.CrashPrefix.{marks-push, marks-newest}
use Rattle.iol_core.specs.CrashPrefix.{marks_of}
use Rattle.iol_core.specs.Events.{Event, Accepted, Refused, Acknowledged, DiskFailed, Stamp, stamped}
use Rattle.iol_core.specs.Words.{acked, acked_by, clock_after}
use Rattle.iol_core.specs.Core.{CoreView}
use Rattle.iol_link.specs.Link.{LinkCall, LinkAnswer}
use Rattle.iol_engine.proofs.Changes.{Change, Permits, Waits, Tells}
use Rattle.iol_engine.proofs.PortCalls.{step_becomes}
use Rattle.iol_engine.proofs.Quiet.{AcksNone, quiet_acks, stamped_more}
use Rattle.iol_run.proofs.Batches.{acknowledged_in_step}
use Rattle.iol_run.specs.CoreOnDisk.{CoreOnDiskView, IsAtRest, IsInStep, clock_of, IsRunning}
use Rattle.iol_engine.specs.Ports.{PortsView}
use Rattle.iol_run.specs.Ports.{StepsIf}
use Rattle.iol_engine.specs.Submitted.{submit_told}
use Rattle.iol_run.specs.Steps.{Does}
use Rattle.iol_run.specs.Turns.{Acknowledges, Takes, HasCalled, Serves, IsTurn, met_by}
use Rattle.iol_run.specs.declared.turn.Turned.{Turned}
use Rattle.iol_run.specs.declared.turn.Turned.TheVariants.{Made, Idle, Waited}
use Rattle.iol_run.specs.declared.step.Step.{Step}
use Rattle.iol_run.specs.declared.step.Step.TheVariants.{Client, Port, Flush}

module _ {D : Type 0} (disk : D → Disk) (start : Start) (begun : ℕ) where
  -- the run of a master with the moments of these events
  abbrev pub Marked : CoreOnDiskView D → List Stamp → Type 0
  Marked master events = IsRunning disk start (marks_of begun start.number events) master

  abbrev mark : ℕ → ℕ → Mark
  mark t n = record { clock = t; acknowledged = n }

  -- an event after which no more is acknowledged adds its moment
  quiet_mark : (master : CoreOnDiskView D) (events : List Stamp) (e : Event) → acked_by (acked start.number events) e
      ≡ acked start.number events
      → Marked master events → Marked master (events ++ stamped (clock_of disk master) (e ∷ []))
  quiet_mark master events e same was =
      subst (λ (ms : List Mark). IsRunning disk start ms master)
      (ap (λ (ms : List Mark). mark (clock_of disk master) (acked start.number events) ∷ ms) (sym newest.1)
      ∙ (ap (λ (n : ℕ). mark (clock_of disk master) n ∷ marks_of begun start.number events) (sym same)
      ∙ sym (marks-push (mark begun start.number ∷ []) start.number events (record { event = e; clock = clock_of disk master }))))
      (marked_later disk start.number start.state master.flusher.published _ (mark (clock_after begun events) (acked start.number events))
      newest.0 master.flusher.stage
      (subst (λ (ms : List Mark). IsRunning disk start ms master) newest.1 was))
    where
      newest : (older : List Mark)
          × (marks_of begun start.number events ≡ mark (clock_after begun events) (acked start.number events) ∷ older)
      newest = marks-newest begun start.number [] events

  -- nothing is reported
  silent_mark : (master : CoreOnDiskView D) (events : List Stamp) (told : List Event) → told ≡ [] → Marked master events
      → Marked master (events ++ stamped (clock_of disk master) told)
  silent_mark master events told none was =
      subst (λ (es : List Event). Marked master (events ++ stamped (clock_of disk master) es)) (sym none)
      (subst (λ (ss : List Stamp). Marked master ss) (sym (append-nil events)) was)

  -- an event that acknowledges nothing is reported
  told_mark : (master : CoreOnDiskView D) (events : List Stamp) (told : List Event) (e : Event) → told ≡ e ∷ []
      → acked_by (acked start.number events) e ≡ acked start.number events → Marked master events
      → Marked master (events ++ stamped (clock_of disk master) told)
  told_mark master events told e one same was =
      subst (λ (es : List Event). Marked master (events ++ stamped (clock_of disk master) es)) (sym one)
      (quiet_mark master events e same was)

  -- events that acknowledge nothing are reported
  unacked_mark : (master : CoreOnDiskView D) (told : List Event) (events : List Stamp) → AcksNone told → Marked master events
      → Marked master (events ++ stamped (clock_of disk master) told)
  unacked_mark master [] events none was = silent_mark master events [] refl was
  unacked_mark master (e ∷ told) events none was =
      subst (λ (ss : List Stamp). Marked master ss) (sym (stamped_more (clock_of disk master) events (e ∷ []) told))
      (unacked_mark master told (events ++ stamped (clock_of disk master) (e ∷ [])) none.1
      (quiet_mark master events e (none.0 (acked start.number events)) was))

  -- a step of a port acknowledges nothing
  change_unacked : (old : CoreView) (change : Change) (told : List Event) → Tells old change told → AcksNone told
  change_unacked old (Permits permits) told tells = quiet_acks told tells
  change_unacked old (Waits command permits) told tells = subst (λ (es : List Event). AcksNone es) (sym tells) ((λ n. refl), tt)

  port_mark : {L : Type 0} (number : L → ℕ) (steps : L → LinkCall → LinkAnswer → L → Type 0) (there : Bool) (port : ℕ)
      (old new : CoreOnDiskView D)
      (ports last : PortsView L) (events : List Stamp) (told : List Event) → StepsIf number steps there port old new ports last told
      → Marked new events
      → Marked new (events ++ stamped (clock_of disk new) told)
  port_mark number steps true port old new ports last events told is was =
      let becomes = step_becomes number steps is.before is.after is.link is.linked old.core new.core is.called is.status is.steps_as in
      subst (λ (es : List Event). Marked new (events ++ stamped (clock_of disk new) es)) (sym is.told_is)
      (subst (λ (ss : List Stamp). Marked new ss) (sym (stamped_more (clock_of disk new) events is.called is.status))
      (unacked_mark new is.status (events ++ stamped (clock_of disk new) is.called) (quiet_acks is.status becomes.1)
      (unacked_mark new is.called events (change_unacked old.core becomes.0.change is.called becomes.0.tells) was)))
  port_mark number steps false port old new ports last events told is was = silent_mark new events told is.2 was

  -- what is published is acknowledged while the flusher rests
  rest_mark : (published waiting : List CommandValue) (marks : List Mark) (n : ℕ) (s : FlushStage D) → IsAtRest s → n ≤ start.number
      + length published
      → IsFlushing disk start.number start.state published waiting marks s
      → IsFlushing disk start.number start.state published waiting (mark (clock (disk (disk_of s)).content) n ∷ marks) s
  rest_mark published waiting marks n (Resting j) at le was = acknowledges disk start.number start.state published waiting marks n j le was
  rest_mark published waiting marks n (Opening c) at le was = absurd at
  rest_mark published waiting marks n (Given j b) at le was = absurd at
  rest_mark published waiting marks n (Checkpointing c b) at le was = absurd at
  rest_mark published waiting marks n (Writing w) at le was = absurd at
  rest_mark published waiting marks n (Publishing j written) at le was = absurd at
  rest_mark published waiting marks n (Failed d f) at le was = absurd at

  acknowledged_mark : (old new : CoreOnDiskView D) (committed : CommittedView) (events : List Stamp) (told : List Event)
      → Acknowledges old new told
      → IsInStep start old.core old.flusher (Some committed) → Marked new events → Marked new (events ++ stamped (clock_of disk new) told)
  acknowledged_mark old new committed events told is step was =
      subst (λ (es : List Event). Marked new (events ++ stamped (clock_of disk new) es)) (sym is.3)
      (subst (λ (ms : List Mark). IsRunning disk start ms new)
      (sym (marks-push (mark begun start.number ∷ []) start.number events
      (record { event = Acknowledged new.core.number; clock = clock_of disk new })))
      (rest_mark new.flusher.published _ (marks_of begun start.number events) new.core.number new.flusher.stage
      (subst (λ (f : FlusherView D). IsAtRest f.stage) (sym is.1) step.3)
      (omega (arith, number)) was))
    where
      number : new.core.number ≡ start.number + length new.flusher.published
      number =
          ap (λ c. c.number) is.0
          ∙ ((acknowledged_in_step start old.core old.flusher committed new.core.seen step).0.number
          ∙ ap (λ (f : FlusherView D). start.number + length f.published) (sym is.1))

  takes_mark : (old new : CoreOnDiskView D) (events : List Stamp) (told : List Event) (turned : Turned) → Takes old new told turned
      → Marked new events
      → Marked new (events ++ stamped (clock_of disk new) told)
  takes_mark old new events told Made is was = silent_mark new events told is.5 was
  takes_mark old new events told Idle is was = silent_mark new events told is.2 was
  takes_mark old new events told Waited is was = silent_mark new events told is.2 was

  called_mark : (old new : CoreOnDiskView D) (events : List Stamp) (told : List Event) → HasCalled disk old new told → Marked new events
      → Marked new (events ++ stamped (clock_of disk new) told)
  called_mark old new events [] is was = silent_mark new events [] refl was
  called_mark old new events (e ∷ told) is was = told_mark new events (e ∷ told) DiskFailed is.1 refl was

  serves_mark : (need : Need) (old new : CoreOnDiskView D) (events : List Stamp) (told : List Event) (turned : Turned)
      → Serves disk need old new told turned
      → Marked new events → Marked new (events ++ stamped (clock_of disk new) told)
  serves_mark need.Batch old new events told turned is was = takes_mark old new events told turned is was
  serves_mark need.Disk old new events told Made is was = called_mark old new events told is.2 was
  serves_mark need.Disk old new events told Idle is was = absurd is
  serves_mark need.BatchOrDisk old new events told turned is was = absurd is
  serves_mark need.Disk old new events told Waited is was = silent_mark new events told is.2 was
  serves_mark need.Publish old new events told turned is was = silent_mark new events told is.1.4 was
  serves_mark need.Stopped old new events told turned is was = silent_mark new events told is.2 was

  turn_mark : (committed : Option CommittedView) (old new : CoreOnDiskView D) (events : List Stamp) (told : List Event) (turned : Turned)
      → IsInStep start old.core old.flusher committed → IsTurn disk committed old new told turned → Marked new events
      → Marked new (events ++ stamped (clock_of disk new) told)
  turn_mark (Some committed) old new events told turned step is was = acknowledged_mark old new committed events told is.1 step was
  turn_mark None old new events told turned step is was = serves_mark (met_by old) old new events told turned is was

  submit_mark : (new : CoreOnDiskView D) (command : CommandValue) (events : List Stamp) (told : List Event) (answer : Result ℕ SubmitFault)
      → told ≡ submit_told command answer → Marked new events → Marked new (events ++ stamped (clock_of disk new) told)
  submit_mark new command events told (Ok n) is was = told_mark new events told (Accepted n command) is refl was
  submit_mark new command events told (Err f) is was = told_mark new events told (Refused (refusal_of f)) is refl was

  -- a step adds the moments of its events
  pub step_mark : {L : Type 0} (number : L → ℕ) (steps : L → LinkCall → LinkAnswer → L → Type 0) (step : Step) (old new : CoreOnDiskView D)
      (ports last : PortsView L) (events : List Stamp) (told : List Event) (turned : Turned)
      → IsInStep start old.core old.flusher old.committed
      → Does disk number steps step old new ports last told turned → Marked new events
      → Marked new (events ++ stamped (clock_of disk new) told)
  step_mark number steps (Client change) old new ports last events told turned step is was =
      submit_mark new (command_of change) events told is.2.0 is.2.4 was
  step_mark number steps (Port port) old new ports last events told turned step is was =
      port_mark number steps (nat_le port (length ports.links)) port old new ports last events told is.1 was
  step_mark number steps Flush old new ports last events told turned step is was =
      turn_mark old.committed old new events told turned step is.1 was
