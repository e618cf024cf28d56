-- A core that knows a failure of the disk accepts nothing more.
use Rattle.std.proofs.Common.{◌≡◌, refl, inl, inr, ⊎_elim, ℕ, nat_le, Bool, true, false, if◌then◌else◌, List, [], ◌∷◌, ◌++◌, length, Option}
use Rattle.std.proofs.Common.{Some, None, is_some, Result, Ok, Err, ap, sym, ◌∙◌, subst, rules}
use Rattle.iol_types.specs.Command.{CommandValue, command_of}
use Rattle.iol_types.specs.State.{check}
use Rattle.iol_types.specs.declared.command.CommandFault.{CommandFault}
use Rattle.iol_disk.specs.Disk.{Disk}
use Rattle.iol_core.specs.Core.{CoreView, live}
use Rattle.iol_core.specs.Submit.{IsSubmit, is_stopped, queue_fault, first_cause, writes_no_more}
use Rattle.iol_core.specs.declared.stop.StopCause.{StopCause}
use Rattle.iol_core.specs.declared.ticket.SubmitFault.{SubmitFault}
use Rattle.iol_core.specs.declared.ticket.SubmitFault.TheVariants as fault
use Rattle.iol_flush.specs.declared.need.Need.{Need}
use Rattle.iol_flush.specs.declared.need.Need.TheVariants as need
use Rattle.iol_front.specs.Fronts.{CommittedView}
use Rattle.iol_journal.specs.Journals.{JournalView}
use Rattle.iol_link.specs.Link.{LinkCall, LinkAnswer}
use Rattle.iol_core.proofs.Words.{accepted-append, failure-append}
use Rattle.iol_core.specs.Events.{Event, Accepted, Acknowledged, Stamp, stamped}
use Rattle.iol_core.specs.Words.{accepted, IsFailure, HasFailure}
use Rattle.iol_run.proofs.AllSteps.{all_tell}
use Rattle.iol_engine.proofs.Changes.{Change, Permits, Waits, HasRoom, Tells, changed}
use Rattle.iol_engine.proofs.PortCalls.{step_becomes}
use Rattle.iol_engine.proofs.Quiet.{AreQuiet, quiet_accepted, quiet_fails, stamped_both}
use Rattle.iol_run.proofs.Serving.{knows}
use Rattle.iol_run.specs.CoreOnDisk.{CoreOnDiskView}
use Rattle.iol_engine.specs.Ports.{PortsView}
use Rattle.iol_run.specs.Ports.{StepsIf}
use Rattle.iol_run.specs.Runs.{RunView}
use Rattle.iol_run.specs.Schedules.{IsFresh}
use Rattle.iol_run.specs.Tasks.{HasMade}
use Rattle.iol_engine.specs.Submitted.{submit_told}
use Rattle.iol_run.specs.Steps.{Does}
use Rattle.iol_run.specs.Stopped.{NoneOnceFailed}
use Rattle.iol_run.specs.Turns.{Takes, HasCalled, Serves, IsTurn, met_by}
use Rattle.iol_run.specs.declared.turn.Turned.{Turned}
use Rattle.iol_run.specs.declared.turn.Turned.TheVariants.{Made, Idle, Waited}
use Rattle.iol_run.specs.declared.step.Step.{Step}
use Rattle.iol_run.specs.declared.step.Step.TheVariants.{Client, Port, Flush}

-- a core heeds failures in these events: it accepts only if it runs, it still knows a failure of the disk that it knew, and it knows one
-- that is reported
record Heeds (old new : CoreView) (told : List Stamp) : Type 0 where
  pub accepts : writes_no_more old.stopped ≡ true → accepted told ≡ []
  pub stays : writes_no_more old.stopped ≡ true → writes_no_more new.stopped ≡ true
  pub known : HasFailure told → writes_no_more new.stopped ≡ true
  pub none : NoneOnceFailed told

-- if no failure is reported, nothing is accepted after one
none_failed : (told : List Stamp) → (HasFailure told → ⊥) → NoneOnceFailed told
none_failed [] sound = tt
none_failed (e ∷ told) sound = ((λ failed. absurd (sound (inl failed))), none_failed told (λ failed. sound (inr failed)))

-- a core that stopped for its disk is stopped
failed_stops : (stopped : Option StopCause) → writes_no_more stopped ≡ true → is_some stopped ≡ true
failed_stops (Some c) failed = refl
failed_stops None failed = search rules

runs_still : (core : CoreView) → is_stopped core ≡ false → writes_no_more core.stopped ≡ true → ⊥
runs_still core runs failed = no (sym runs ∙ failed_stops core.stopped failed)
  where
    no : false ≡ true → ⊥
    no is = search rules

-- a command that is taken is taken by a core that runs
taken_runs : (stopped : Bool) (queue : Option SubmitFault) (checked : Option CommandFault)
    → (if stopped then Some fault.Stopped else first_cause checked queue) ≡ None → stopped ≡ false
taken_runs true queue checked none = search rules
taken_runs false queue checked none = refl

module _ (t : ℕ) where
  -- a core heeds failures in one event that is no failure
  one_heeds : (old new : CoreView) (e : Event) → new.stopped ≡ old.stopped → (IsFailure e → ⊥)
      → (writes_no_more old.stopped ≡ true → accepted (stamped t (e ∷ [])) ≡ [])
      → Heeds old new (stamped t (e ∷ []))
  one_heeds old new e same sound accepts = record {
    accepts = accepts;
    stays = λ failed. ap writes_no_more same ∙ failed;
    known = λ told. absurd (⊎_elim sound (λ never. never) told);
    none = none_failed (stamped t (e ∷ [])) (λ told. ⊎_elim sound (λ never. never) told);
  }

  silent_heeds : (old new : CoreView) (told : List Event) → told ≡ [] → new.stopped ≡ old.stopped → Heeds old new (stamped t told)
  silent_heeds old new told is same =
      subst (λ (es : List Event). Heeds old new (stamped t es)) (sym is) (record {
        accepts = λ failed. refl;
        stays = λ failed. ap writes_no_more same ∙ failed;
        known = λ never. absurd never;
        none = tt;
      })

  submit_heeds : (old new : CoreView) (command : CommandValue) (answer : Result ℕ SubmitFault) → IsSubmit old command new answer
      → Heeds old new (stamped t (submit_told command answer))
  submit_heeds old new command (Ok n) is =
      one_heeds old new (Accepted n command) (ap (λ (c : CoreView). c.stopped) is.2) (λ never. never)
      (λ failed. absurd (runs_still old (taken_runs (is_stopped old) (queue_fault old) (check (live old) command) is.0) failed))
  submit_heeds old new command (Err f) is = one_heeds old new _ (ap (λ (c : CoreView). c.stopped) is.1) (λ never. never) (λ failed. refl)

  -- a core heeds failures in a call of a port
  change_heeds : (old : CoreView) (change : Change) (told : List Event) → HasRoom old change → Tells old change told
      → Heeds old (changed old change) (stamped t told)
  change_heeds old (Permits permits) told room tells = record {
    accepts = λ failed. quiet_accepted t told tells;
    stays = λ failed. failed;
    known = λ failed. absurd (quiet_fails t told tells failed);
    none = none_failed (stamped t told) (quiet_fails t told tells);
  }
  change_heeds old (Waits command permits) told room tells =
      subst (λ (es : List Event). Heeds old (changed old (Waits command permits)) (stamped t es)) (sym tells)
      (one_heeds old (changed old (Waits command permits)) (Accepted _ command) refl (λ never. never) (λ failed.
      absurd (runs_still old room.0 failed)))

  -- a core heeds failures in a status
  quiet_heeds : (core : CoreView) (told : List Event) → AreQuiet told → Heeds core core (stamped t told)
  quiet_heeds core told quiet = change_heeds core (Permits core.permits) told tt quiet

-- a core heeds failures in events, and in more after them
more_heeds : (old mid new : CoreView) (told more : List Stamp) → Heeds old mid told → Heeds mid new more → Heeds old new (told ++ more)
more_heeds old mid new told more one two = record {
  accepts = λ failed. accepted-append told more
      ∙ both (accepted told) (accepted more) (one.accepts failed) (two.accepts (one.stays failed));
  stays = λ failed. two.stays (one.stays failed);
  known = λ failed. ⊎_elim (λ before. two.stays (one.known before)) (λ behind. two.known behind) (failure-append told more failed);
  none = behind told one.known one.none;
}
  where
    both : (cs ds : List CommandValue) → cs ≡ [] → ds ≡ [] → cs ++ ds ≡ []
    both cs ds first second = ap (λ (xs : List CommandValue). xs ++ ds) first ∙ second

    behind : (front : List Stamp) → (HasFailure front → writes_no_more mid.stopped ≡ true) → NoneOnceFailed front
        → NoneOnceFailed (front ++ more)
    behind [] known none = two.none
    behind (e ∷ front) known none = (
      (λ failed.
          accepted-append front more
          ∙ both (accepted front) (accepted more) (none.0 failed) (two.accepts (known (inl failed)))),
      behind front (λ later. known (inr later)) none.1,
    )

module _ (t : ℕ) {D : Type 0} where
  takes_heeds : (old new : CoreOnDiskView D) (told : List Event) (turned : Turned) → Takes old new told turned
      → Heeds old.core new.core (stamped t told)
  takes_heeds old new told Made is = silent_heeds t old.core new.core told is.5 (ap (λ (c : CoreView). c.stopped) is.1.others)
  takes_heeds old new told Idle is = silent_heeds t old.core new.core told is.2 (ap (λ (m : CoreOnDiskView D). m.core.stopped) is.1)
  takes_heeds old new told Waited is = silent_heeds t old.core new.core told is.2 (ap (λ (m : CoreOnDiskView D). m.core.stopped) is.1)

  module _ (disk : D → Disk) where
    called_heeds : (old new : CoreOnDiskView D) (told : List Event) → HasCalled disk old new told → Heeds old.core new.core (stamped t told)
    called_heeds old new [] is = silent_heeds t old.core new.core [] refl (ap (λ (c : CoreView). c.stopped) is.0)
    called_heeds old new (e ∷ told) is =
        let failed : writes_no_more new.core.stopped ≡ true = ap (λ (c : CoreView). writes_no_more c.stopped) is.2
        ∙ knows old.core.stopped in
        subst (λ (es : List Event). Heeds old.core new.core (stamped t es)) (sym is.1) (record {
          accepts = λ was. refl;
          stays = λ was. failed;
          known = λ was. failed;
          none = ((λ was. refl), tt);
        })

    serves_heeds : (needs : Need) (old new : CoreOnDiskView D) (told : List Event) (turned : Turned) → Serves disk needs old new told turned
        → Heeds old.core new.core (stamped t told)
    serves_heeds need.Batch old new told turned is = takes_heeds old new told turned is
    serves_heeds need.Disk old new told Made is = called_heeds old new told is.2
    serves_heeds need.Disk old new told Idle is = absurd is
    serves_heeds need.BatchOrDisk old new told turned is = absurd is
    serves_heeds need.Disk old new told Waited is =
        silent_heeds t old.core new.core told is.2 (ap (λ (m : CoreOnDiskView D). m.core.stopped) is.1)
    serves_heeds need.Publish old new told turned is =
        silent_heeds t old.core new.core told is.1.4 (ap (λ (c : CoreView). c.stopped) is.1.2)
    serves_heeds need.Stopped old new told turned is =
        silent_heeds t old.core new.core told is.2 (ap (λ (m : CoreOnDiskView D). m.core.stopped) is.1)

    turn_heeds : (committed : Option CommittedView) (old new : CoreOnDiskView D) (told : List Event) (turned : Turned)
        → IsTurn disk committed old new told turned → Heeds old.core new.core (stamped t told)
    turn_heeds (Some committed) old new told turned is =
        subst (λ (es : List Event). Heeds old.core new.core (stamped t es)) (sym is.1.3)
        (one_heeds t old.core new.core (Acknowledged new.core.number) (ap (λ (c : CoreView). c.stopped) is.1.0) (λ never. never) (λ failed.
        refl))
    turn_heeds None old new told turned is = serves_heeds (met_by old) old new told turned is

    module _ {L : Type 0} (connection : L → ℕ) (allows : L → LinkCall → LinkAnswer → L → Type 0) where
      port_heeds : (there : Bool) (port : ℕ) (old new : CoreOnDiskView D) (ports last : PortsView L) (told : List Event)
          → StepsIf connection allows there port old new ports last told → Heeds old.core new.core (stamped t told)
      port_heeds true port old new ports last told is =
          let becomes = step_becomes connection allows is.before is.after is.link is.linked old.core new.core is.called is.status
          is.steps_as in
          subst (λ (es : List Event). Heeds old.core new.core (stamped t es)) (sym is.told_is)
          (subst (λ (ss : List Stamp). Heeds old.core new.core ss) (sym (stamped_both t is.called is.status))
          (more_heeds old.core new.core new.core (stamped t is.called) (stamped t is.status)
          (subst (λ (c : CoreView). Heeds old.core c (stamped t is.called)) (sym becomes.0.new_is)
          (change_heeds t old.core becomes.0.change is.called becomes.0.room becomes.0.tells))
          (quiet_heeds t new.core is.status becomes.1)))
      port_heeds false port old new ports last told is =
          silent_heeds t old.core new.core told is.2 (ap (λ (m : CoreOnDiskView D). m.core.stopped) is.0)

      step_heeds : (step : Step) (old new : CoreOnDiskView D) (ports last : PortsView L) (told : List Event) (turned : Turned)
          → Does disk connection allows step old new ports last told turned → Heeds old.core new.core (stamped t told)
      step_heeds (Client change) old new ports last told turned is =
          subst (λ (es : List Event). Heeds old.core new.core (stamped t es)) (sym is.2.4)
          (submit_heeds t old.core new.core (command_of change) is.2.0 is.2.1)
      step_heeds (Port port) old new ports last told turned is =
          port_heeds (nat_le port (length ports.links)) port old new ports last told is.1
      step_heeds Flush old new ports last told turned is = turn_heeds old.committed old new told turned is.1

-- a core that stays as it is heeds failures
stays_heeding : (old new : CoreView) → new ≡ old → Heeds old new []
stays_heeding old new same = silent_heeds 0 old new [] refl (ap (λ (c : CoreView). c.stopped) same)

module _ {D L : Type 0} (disk : D → Disk) (connection : L → ℕ) (allows : L → LinkCall → LinkAnswer → L → Type 0) where
  -- in steps that were made from a fresh run nothing is accepted once a failure is reported
  pub none_once_failed : (steps : List Step) (waits : ℕ) (journal : JournalView D) (links : List L) (old new : RunView D L)
      → IsFresh disk journal links old
      → HasMade disk connection allows steps waits old new → NoneOnceFailed new.events
  none_once_failed steps waits journal links old new fresh made =
      (all_tell disk connection allows (λ (m : CoreOnDiskView D). m.core) Heeds stays_heeding more_heeds
      (λ t. step_heeds t disk connection allows) steps waits journal links old new fresh made).none
