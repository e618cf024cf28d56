-- Each client is answered once, as the events before say.
use Rattle.std.proofs.Common.{◌≡◌, refl, inl, ⊎_elim, ℕ, nat_le, Bool, true, false, if◌then◌else◌, List, [], ◌∷◌, ◌++◌, length}
use Rattle.std.proofs.Common.{Option, Some, None, Result, Ok, Err, ap, sym, ◌∙◌, subst, append-nil, append_assoc}
use Rattle.iol_types.specs.Command.{CommandValue, command_of}
use Rattle.iol_types.specs.State.{State}
use Rattle.iol_types.specs.declared.command.Change.TheVariants as asked
use Rattle.iol_types.specs.declared.command.Change as client
use Rattle.iol_disk.specs.Disk.{Disk}
use Rattle.iol_core.specs.Core.{CoreView}
use Rattle.iol_core.specs.Submit.{IsSubmit, submit_fault, stopped_by}
use Rattle.iol_core.specs.Telling.{refusal_of}
use Rattle.iol_core.specs.declared.stop.StopCause.{StopCause}
use Rattle.iol_core.specs.declared.stop.StopCause.TheVariants.{Closed, DiskFailed, OutOfMemory}
use Rattle.iol_core.specs.declared.ticket.SubmitFault.{SubmitFault}
use Rattle.iol_flush.specs.declared.need.Need.{Need}
use Rattle.iol_flush.specs.declared.need.Need.TheVariants as need
use Rattle.iol_front.specs.Fronts.{CommittedView}
use Rattle.iol_journal.specs.Journals.{JournalView}
use Rattle.iol_link.specs.Link.{LinkCall, LinkAnswer}
use Rattle.iol_core.proofs.Words.{failure-append}
use Rattle.iol_core.specs.Events.{Event, Accepted, Refused, Stamp, stamped}
use Rattle.iol_core.specs.Words.{durable, IsFailure, HasFailure}
use Rattle.iol_engine.proofs.Changes.{Change, Permits, Waits, Tells, changed}
use Rattle.iol_engine.proofs.CoreAfter.{core_after}
use Rattle.iol_run.proofs.CoreOfRun.{Stands, fresh_stands, step_stands}
use Rattle.iol_run.proofs.Counted.{failure_stays, failure_told}
use Rattle.iol_run.proofs.FlusherTells.{turn_says}
use Rattle.iol_engine.proofs.PortCalls.{step_becomes}
use Rattle.iol_engine.proofs.Quiet.{quiet_fails, stamped_both}
use Rattle.iol_run.specs.Answers.{clients_of, is_answer, IsAnswer, Answers, AnswersNext, AnswersClients}
use Rattle.iol_run.specs.CoreOnDisk.{CoreOnDiskView, clock_of}
use Rattle.iol_engine.specs.Ports.{PortsView}
use Rattle.iol_run.specs.Ports.{StepsIf}
use Rattle.iol_run.specs.Runs.{RunView}
use Rattle.iol_run.specs.Schedules.{IsFresh}
use Rattle.iol_engine.specs.Submitted.{submit_told}
use Rattle.iol_run.specs.Steps.{Does}
use Rattle.iol_run.specs.Tasks.{HasMade}
use Rattle.iol_run.specs.Turns.{Takes, HasCalled, Serves, IsTurn, met_by}
use Rattle.iol_run.specs.declared.turn.Turned.{Turned}
use Rattle.iol_run.specs.declared.turn.Turned.TheVariants.{Made, Idle, Waited}
use Rattle.iol_run.specs.declared.step.Step.{Step}
use Rattle.iol_run.specs.declared.step.Step.TheVariants.{Client, Port, Flush}
use Rattle.iol_run.proofs.Unanswered.{answers_in, port_answers, flusher_answers}

-- what a core knows of the disk: it runs if no failure was reported, and has stopped for the disk if one was
record Knows (events : List Stamp) (core : CoreView) : Type 0 where
  runs : (HasFailure events → ⊥) → core.stopped ≡ None
  failed : HasFailure events → core.stopped ≡ Some DiskFailed

-- a core's cause to stop stays as it was, and no failure is reported; or it stops for the disk, and that is reported
record GoesOn (old new : CoreView) (told : List Stamp) : Type 0 where
  same : new.stopped ≡ old.stopped
  none : HasFailure told → ⊥

record Stops (new : CoreView) (told : List Stamp) : Type 0 where
  stopped : new.stopped ≡ Some DiskFailed
  told_is : HasFailure told

knows_on : (events told : List Stamp) (old new : CoreView) → GoesOn old new told → Knows events old → Knows (events ++ told) new
knows_on events told old new on was = record {
  runs = λ none. on.same ∙ was.runs (λ failed. none (failure_stays events told failed));
  failed = λ failed.
      on.same ∙ ⊎_elim (λ before. was.failed before) (λ behind. absurd (on.none behind)) (failure-append events told failed);
}

knows_stopped : (events told : List Stamp) (new : CoreView) → Stops new told → Knows (events ++ told) new
knows_stopped events told new stops = record {
  runs = λ none. absurd (none (failure_told events told stops.told_is));
  failed = λ failed. stops.stopped;
}

fails_last : (stopped : Option StopCause) → Some (stopped_by stopped DiskFailed) ≡ Some DiskFailed
fails_last None = refl
fails_last (Some Closed) = refl
fails_last (Some DiskFailed) = refl
fails_last (Some OutOfMemory) = refl

module _ (t : ℕ) where
  -- events without a failure leave a core's cause to stop as it was
  silent_on : (old new : CoreView) (told : List Event) → told ≡ [] → new.stopped ≡ old.stopped → GoesOn old new (stamped t told)
  silent_on old new told is same = record { same = same; none = λ failed. subst (λ (es : List Event). HasFailure (stamped t es)) is failed }

  one_on : (old new : CoreView) (told : List Event) (e : Event) → told ≡ e ∷ [] → (IsFailure e → ⊥) → new.stopped ≡ old.stopped
      → GoesOn old new (stamped t told)
  one_on old new told e is sound same = record {
    same = same;
    none = λ failed. ⊎_elim sound (λ never. never) (subst (λ (es : List Event). HasFailure (stamped t es)) is failed);
  }

  submit_on : (command : CommandValue) (answer : Result ℕ SubmitFault) (old new : CoreView) → IsSubmit old command new answer
      → GoesOn old new (stamped t (submit_told command answer))
  submit_on command (Ok n) old new is = one_on old new _ _ refl (λ never. never) (ap (λ (c : CoreView). c.stopped) is.2)
  submit_on command (Err f) old new is = one_on old new _ _ refl (λ never. never) (ap (λ (c : CoreView). c.stopped) is.1)

  change_on : (old : CoreView) (change : Change) (told : List Event) → Tells old change told
      → GoesOn old (changed old change) (stamped t told)
  change_on old (Permits permits) told tells = record { same = refl; none = quiet_fails t told tells }
  change_on old (Waits command permits) told tells = one_on old _ told _ tells (λ never. never) refl

  module _ {D : Type 0} where
    port_on : {L : Type 0} (number : L → ℕ) (steps : L → LinkCall → LinkAnswer → L → Type 0) (there : Bool) (port : ℕ)
        (old new : CoreOnDiskView D) (ports last : PortsView L) (told : List Event)
        → StepsIf number steps there port old new ports last told
        → GoesOn old.core new.core (stamped t told)
    port_on number steps true port old new ports last told is =
        let becomes = step_becomes number steps is.before is.after is.link is.linked old.core new.core is.called is.status is.steps_as in
        let called = change_on old.core becomes.0.change is.called becomes.0.tells in
        record {
          same = subst (λ (c : CoreView). c.stopped ≡ old.core.stopped) (sym becomes.0.new_is) called.same;
          none = λ failed. ⊎_elim called.none (quiet_fails t is.status becomes.1)
              (failure-append (stamped t is.called) (stamped t is.status)
              (subst (λ (ss : List Stamp). HasFailure ss) (ap (stamped t) is.told_is ∙ stamped_both t is.called is.status) failed));
        }
    port_on number steps false port old new ports last told is =
        silent_on old.core new.core told is.2 (ap (λ (m : CoreOnDiskView D). m.core.stopped) is.0)

    module _ (events : List Stamp) (old new : CoreOnDiskView D) (was : Knows events old.core) where
      on : (told : List Event) → GoesOn old.core new.core (stamped t told) → Knows (events ++ stamped t told) new.core
      on told goes = knows_on events (stamped t told) old.core new.core goes was

      silent : (told : List Event) → told ≡ [] → new.core.stopped ≡ old.core.stopped → Knows (events ++ stamped t told) new.core
      silent told is same = on told (silent_on old.core new.core told is same)

      stays : (told : List Event) → told ≡ [] → new ≡ old → Knows (events ++ stamped t told) new.core
      stays told is same = silent told is (ap (λ (m : CoreOnDiskView D). m.core.stopped) same)

      takes_knows : (told : List Event) (turned : Turned) → Takes old new told turned → Knows (events ++ stamped t told) new.core
      takes_knows told Made is = silent told is.5 (ap (λ (c : CoreView). c.stopped) is.1.others)
      takes_knows told Idle is = stays told is.2 is.1
      takes_knows told Waited is = stays told is.2 is.1

      module _ (disk : D → Disk) where
        called_knows : (told : List Event) → HasCalled disk old new told → Knows (events ++ stamped t told) new.core
        called_knows [] is = silent [] refl (ap (λ (c : CoreView). c.stopped) is.0)
        called_knows (e ∷ told) is =
            knows_stopped events (stamped t (e ∷ told)) new.core (record {
              stopped = ap (λ (c : CoreView). c.stopped) is.2 ∙ fails_last old.core.stopped;
              told_is = subst (λ (es : List Event). HasFailure (stamped t es)) (sym is.1) (inl tt);
            })

        serves_knows : (needs : Need) (told : List Event) (turned : Turned) → Serves disk needs old new told turned
            → Knows (events ++ stamped t told) new.core
        serves_knows need.Batch told turned is = takes_knows told turned is
        serves_knows need.Disk told Made is = called_knows told is.2
        serves_knows need.Disk told Idle is = absurd is
        serves_knows need.BatchOrDisk told turned is = absurd is
        serves_knows need.Disk told Waited is = stays told is.2 is.1
        serves_knows need.Publish told turned is = silent told is.1.4 (ap (λ (c : CoreView). c.stopped) is.1.2)
        serves_knows need.Stopped told turned is = stays told is.2 is.1

        turn_knows : (committed : Option CommittedView) (told : List Event) (turned : Turned) → IsTurn disk committed old new told turned
            → Knows (events ++ stamped t told) new.core
        turn_knows (Some committed) told turned is =
            on told (one_on old.core new.core told _ is.1.3 (λ never. never) (ap (λ (c : CoreView). c.stopped) is.1.0))
        turn_knows None told turned is = serves_knows (met_by old) told turned is

        step_knows : {L : Type 0} (number : L → ℕ) (steps : L → LinkCall → LinkAnswer → L → Type 0) (step : Step) (ports last : PortsView L)
            (told : List Event) (turned : Turned) → Does disk number steps step old new ports last told turned
            → Knows (events ++ stamped t told) new.core
        step_knows number steps (Client change) ports last told turned is =
            subst (λ (es : List Event). Knows (events ++ stamped t es) new.core) (sym is.2.4)
            (on _ (submit_on (command_of change) is.2.0 old.core new.core is.2.1))
        step_knows number steps (Port port) ports last told turned is =
            on told (port_on number steps (nat_le port (length ports.links)) port old new ports last told is.1)
        step_knows number steps Flush ports last told turned is = turn_knows old.committed told turned is.1

module _ (first : ℕ) (start : State) where
  -- an event that is no answer, before others that are none, answers no client
  next_none : (Behind : List CommandValue → Type 0) (before : List Stamp) (e : Event) (told : List Event) (b : Bool)
      → (if b then e ∷ [] else []) ++ answers_in told ≡ [] → (answers_in told ≡ [] → Behind [])
      → AnswersNext Behind first start before [] e b
  next_none Behind before e told false none behind = behind none
  next_none Behind before e told true none behind = absurd (no none)
    where
      no : e ∷ answers_in told ≡ [] → ⊥
      no h = cc

  -- an event that answers a client or none may be followed by more answers
  next_joined : (Behind Then : List CommandValue → Type 0) (before : List Stamp) (commands more : List CommandValue) (e : Event) (b : Bool)
      → ((rest : List CommandValue) → Behind rest → Then (rest ++ more)) → AnswersNext Behind first start before commands e b
      → AnswersNext Then first start before (commands ++ more) e b
  next_joined Behind Then before commands more e true later next = (
    next.0,
    next.1 ++ more,
    ap (λ (cs : List CommandValue). cs ++ more) next.2,
    next.3,
    later next.1 next.4,
  )
  next_joined Behind Then before commands more e false later next = later commands next

  -- events that are no answers answer no client
  answers_none : (t : ℕ) (before : List Stamp) (told : List Event) → answers_in told ≡ []
      → AnswersClients first start before [] (stamped t told)
  unfolding answers_in
  answers_none t before [] none = refl
  answers_none t before (e ∷ told) none =
      next_none (λ (rest : List CommandValue). AnswersClients first start (before ++ record { event = e; clock = t } ∷ []) rest (stamped t
      told))
      before e told (is_answer e) none (λ behind. answers_none t (before ++ record { event = e; clock = t } ∷ []) told behind)

  -- events that answer clients, and events after them that answer more, answer all of these
  answers_join : (before one two : List Stamp) (commands more : List CommandValue) → AnswersClients first start before commands one
      → AnswersClients first start (before ++ one) more two → AnswersClients first start before (commands ++ more) (one ++ two)
  answers_join before [] two commands more none behind =
      subst (λ (cs : List CommandValue). AnswersClients first start before (cs ++ more) two) (sym none)
      (subst (λ (ss : List Stamp). AnswersClients first start ss more two) (append-nil before) behind)
  answers_join before (e ∷ one) two commands more all behind =
      next_joined (λ (rest : List CommandValue). AnswersClients first start (before ++ e ∷ []) rest one)
      (λ (rest : List CommandValue). AnswersClients first start (before ++ e ∷ []) rest (one ++ two)) before commands more e.event
      (is_answer e.event)
      (λ rest answers.
      answers_join (before ++ e ∷ []) one two rest more answers
      (subst (λ (ss : List Stamp). AnswersClients first start ss more two) (sym (append_assoc before (e ∷ []) one)) behind))
      all

  -- a client is answered
  submit_answers : (t : ℕ) (before : List Stamp) (change : client.Change) (answer : Result ℕ SubmitFault) (old new : CoreView)
      → IsSubmit old (command_of change) new answer → Stands first start before old → Knows before old
      → AnswersClients first start before (command_of change ∷ []) (stamped t (submit_told (command_of change) answer))
  submit_answers t before change answer old new is stands knows = by change answer is
    where
      answered : (command : CommandValue) (told : Event) → IsAnswer old command told (submit_fault old command)
          → Answers first start before command told
      answered command told is = record {
        core = old;
        stands = core_after first start before old stands;
        runs = knows.runs;
        failed = knows.failed;
        answer = is;
      }

      accepted : (command : CommandValue) (n : ℕ) → IsSubmit old command new (Ok n) → IsAnswer old command (Accepted n command)
          (submit_fault old command)
      accepted command n is =
          subst (λ (f : Option SubmitFault). IsAnswer old command (Accepted n command) f) (sym is.0)
          (ap (λ (m : ℕ). Accepted m command) is.1)

      refused : (command : CommandValue) (f : SubmitFault) → IsSubmit old command new (Err f)
          → IsAnswer old command (Refused (refusal_of f))
          (submit_fault old command)
      refused command f is =
          subst (λ (o : Option SubmitFault). IsAnswer old command (Refused (refusal_of f)) o) (sym is.0) refl

      by : (change : client.Change) (answer : Result ℕ SubmitFault) → IsSubmit old (command_of change) new answer
          → AnswersClients first start before (command_of change ∷ []) (stamped t (submit_told (command_of change) answer))
      by (asked.Configure port config) (Ok n) is = (
        _,
        [],
        refl,
        answered (command_of (asked.Configure port config)) _ (accepted (command_of (asked.Configure port config)) n is),
        refl,
      )
      by (asked.Clear port) (Ok n) is =
          (_, [], refl, answered (command_of (asked.Clear port)) _ (accepted (command_of (asked.Clear port)) n is), refl)
      by (asked.Rollback port) (Ok n) is =
          (_, [], refl, answered (command_of (asked.Rollback port)) _ (accepted (command_of (asked.Rollback port)) n is), refl)
      by change (Err f) is = (_, [], refl, answered (command_of change) _ (refused (command_of change) f is), refl)

  module _ {D L : Type 0} (disk : D → Disk) (number : L → ℕ) (steps : L → LinkCall → LinkAnswer → L → Type 0) where
    step_answers : (t : ℕ) (before : List Stamp) (step : Step) (old new : CoreOnDiskView D) (ports last : PortsView L) (told : List Event)
        (turned : Turned) → Does disk number steps step old new ports last told turned → Stands first start before old.core
        → Knows before old.core → AnswersClients first start before (clients_of (step ∷ [])) (stamped t told)
    step_answers t before (Client change) old new ports last told turned is stands knows =
        subst (λ (es : List Event). AnswersClients first start before (command_of change ∷ []) (stamped t es)) (sym is.2.4)
        (submit_answers t before change is.2.0 old.core new.core is.2.1 stands knows)
    step_answers t before (Port port) old new ports last told turned is stands knows =
        answers_none t before told (port_answers number steps (nat_le port (length ports.links)) port old new ports last told is.1)
    step_answers t before Flush old new ports last told turned is stands knows =
        answers_none t before told (turn_says answers_in flusher_answers disk old.committed old new told turned is.1)

    -- the events of a run answer the clients of its steps
    record HasAnswered (made : List Step) (old new : RunView D L) : Type 0 where
      more : List Stamp
      events : new.events ≡ old.events ++ more
      answers : AnswersClients first start old.events (clients_of made) more
      stands : Stands first start new.events new.master.core

    clients_after : (step : Step) (made : List Step) → clients_of (step ∷ made) ≡ clients_of (step ∷ []) ++ clients_of made
    clients_after (Client change) made = refl
    clients_after (Port port) made = refl
    clients_after Flush made = refl

    steps_answer : (made : List Step) (waits : ℕ) (old new : RunView D L) → HasMade disk number steps made waits old new
        → Stands first start old.events old.master.core → Knows old.events old.master.core → HasAnswered made old new
    steps_answer [] waits old new made stands knows = record {
      more = [];
      events = ap (λ (r : RunView D L). r.events) made.1 ∙ sym (append-nil old.events);
      answers = refl;
      stands = subst (λ (r : RunView D L). Stands first start r.events r.master.core) (sym made.1) stands;
    }
    steps_answer (step ∷ rest) waits old new made stands knows =
        let mid = made.2 in
        let did = made.3 in
        let t = clock_of disk mid.master in
        let now = stamped t did.0 in
        let behind =
        steps_answer rest made.1 mid new made.5
        (subst (λ (ss : List Stamp). Stands first start ss mid.master.core) (sym did.2)
        (step_stands first start disk number steps step t old.events old.master mid.master old.ports mid.ports did.0 made.0 did.1 stands))
        (subst (λ (ss : List Stamp). Knows ss mid.master.core) (sym did.2)
        (step_knows t old.events old.master mid.master knows disk number steps step old.ports mid.ports did.0 made.0 did.1)) in
        record {
          more = now ++ behind.more;
          events =
              behind.events
              ∙ (ap (λ (ss : List Stamp). ss ++ behind.more) did.2 ∙ append_assoc old.events now behind.more);
          answers =
              subst (λ (cs : List CommandValue). AnswersClients first start old.events cs (now ++ behind.more))
              (sym (clients_after step rest))
              (answers_join old.events now behind.more (clients_of (step ∷ [])) (clients_of rest)
              (step_answers t old.events step old.master mid.master old.ports mid.ports did.0 made.0 did.1 stands knows)
              (subst (λ (ss : List Stamp). AnswersClients first start ss (clients_of rest) behind.more) did.2 behind.answers));
          stands = behind.stands;
        }

    -- the events of steps that were made from a fresh run answer the clients of these steps
    pub all_answered : (made : List Step) (waits : ℕ) (journal : JournalView D) (links : List L) (old new : RunView D L)
        → first ≡ journal.standing.number → start ≡ journal.standing.state → IsFresh disk journal links old
        → HasMade disk number steps made waits old new
        → AnswersClients first start [] (clients_of made) new.events × (new.master.core.durable ≡ durable first start new.events)
    all_answered made waits journal links old new number_is state_is fresh run =
        let told = steps_answer made waits old new run (fresh_stands first start disk journal links old number_is state_is fresh) knows in (
          subst (λ (ss : List Stamp). AnswersClients first start [] (clients_of made) ss)
              (sym (told.events ∙ ap (λ (ss : List Stamp). ss ++ told.more) fresh.events))
              (subst (λ (ss : List Stamp). AnswersClients first start ss (clients_of made) told.more) fresh.events told.answers),
          (core_after first start new.events new.master.core told.stands).durable,
        )
      where
        knows : Knows old.events old.master.core
        knows =
            subst (λ (ss : List Stamp). Knows ss old.master.core) (sym fresh.events)
            (record { runs = λ none. fresh.stopped; failed = λ failed. absurd failed })
