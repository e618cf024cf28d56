-- What each step keeps of a master: the commands in flight are with the flusher, whose journal keeps its layout, and few commands wait.
use Rattle.std.proofs.Common.{◌≡◌, refl, ◌≤◌, ℕ, ◌+◌, ◌*◌, ◌||◌, nat_le, not, Bool, true, false, if◌then◌else◌, List, [], ◌∷◌, length}
use Rattle.std.proofs.Common.{inl, inr, Option, Some, None, is_some, Result, Ok, Err, ap, sym, ◌∙◌, subst, arith, rules}
use Rattle.std.proofs.Common.{length-append, length-drop}
use Rattle.iol_types.specs.Command.{CommandValue, command_of}
use Rattle.iol_types.specs.State.{check}
use Rattle.iol_types.specs.declared.command.CommandFault.{CommandFault}
use Rattle.iol_disk.specs.Disk.{Disk}
use Rattle.iol_disk.specs.declared.fault.DiskFault.{DiskFault}
use Rattle.iol_core.specs.Batches.{IsTaken, has_batch}
use Rattle.iol_core.specs.Core.{CoreView, live}
use Rattle.iol_core.specs.Submit.{IsSubmit, is_stopped, queue_fault, queued, first_cause}
use Rattle.iol_core.specs.declared.permit.Grant.{Grant}
use Rattle.iol_core.specs.declared.core_value.TheConstants.{QUEUE_COMMANDS}
use Rattle.iol_core.specs.declared.ticket.SubmitFault.{SubmitFault}
use Rattle.iol_core.specs.declared.ticket.SubmitFault.TheVariants as fault
use Rattle.iol_flush.specs.Stages.{FlusherView, HasFewCalls, due_need, need_of, room_of, failure_of}
use Rattle.iol_flush.specs.Steps.{HasAdvanced, HasMadeOfBatch, HasMadeOfCheckpoint, HasBegun, HasMade, HasTaken, HasPublished}
use Rattle.iol_flush.specs.declared.need.Need.{Need}
use Rattle.iol_flush.specs.declared.need.Need.TheVariants as need
use Rattle.iol_flush.specs.declared.stage.FlushStage.{FlushStage}
use Rattle.iol_flush.specs.declared.stage.FlushStage.TheVariants.{Resting, Opening, Given, Checkpointing, Writing, Publishing, Failed}
use Rattle.iol_front.specs.Fronts.{CommittedView}
use Rattle.iol_journal.proofs.Layouts.{renewed-renewed, renewed-twice}
use Rattle.iol_journal.specs.Begin.{wants_checkpoint}
use Rattle.iol_journal.specs.CheckpointViews.{CheckpointingView, checkpoint_of}
use Rattle.iol_journal.specs.Journals.{JournalView, WritingView, writing_of}
use Rattle.iol_journal.specs.Body.{values}
use Rattle.iol_journal.specs.Layout.{Layout, is_renewed, renewed}
use Rattle.iol_journal.specs.Meaning.{Standing}
use Rattle.iol_journal.specs.declared.batch.Batch.{Batch}
use Rattle.iol_core.specs.Events.{Event}
use Rattle.iol_link.specs.Link.{LinkCall, LinkAnswer}
use Rattle.iol_run.proofs.Batches.{taken_flight}
use Rattle.iol_run.proofs.Calls.{flight_with, in_flight_with}
use Rattle.iol_engine.proofs.Changes.{Change, Permits, Waits, HasRoom, changed, room_in, with_permits}
use Rattle.iol_engine.proofs.PortCalls.{step_becomes}
use Rattle.iol_run.proofs.InStep.{more_waits, flight_stays}
use Rattle.iol_run.proofs.Serving.{made_flight, failed_flight}
use Rattle.iol_run.proofs.TurnsLeft.{HasBatch, HasLayout, IsNewest}
use Rattle.iol_run.specs.CoreOnDisk.{CoreOnDiskView, IsInFlight, HasFlight, IsAtRest}
use Rattle.iol_engine.specs.Ports.{PortsView}
use Rattle.iol_run.specs.Ports.{StepsIf}
use Rattle.iol_run.specs.Steps.{Does}
use Rattle.iol_run.specs.Turns.{Acknowledges, Takes, HasCalled, Publishes, Serves, IsTurn, met_by, need_met}
use Rattle.iol_run.specs.declared.turn.Turned.{Turned}
use Rattle.iol_run.specs.declared.turn.Turned.TheVariants.{Made, Idle, Waited}
use Rattle.iol_run.specs.declared.step.Step.{Step}
use Rattle.iol_run.specs.declared.step.Step.TheVariants.{Client, Port, Flush}

-- what holds of a master between steps
pub record IsServed {D : Type 0} (layout : Layout) (core : CoreView) (stage : FlushStage D)
    (committed : Option CommittedView) : Type 0 where
  pub batch : HasBatch core stage committed
  pub layout_is : HasLayout layout stage
  pub newest : IsNewest stage committed
  pub few_calls : HasFewCalls stage
  pub few_wait : length core.queue ≤ QUEUE_COMMANDS

-- the same of a master as contracts see it
abbrev pub Served : {D : Type 0} → Layout → CoreOnDiskView D → Type 0
Served layout master = IsServed layout master.core master.flusher.stage master.committed

-- if a turn takes a batch, the journal at rest has the layout that is written
met_newest : (newest other there : Bool) → need_met (if not newest || other then due_need newest else need.Batch) there ≡ need.Batch
    → newest ≡ true
met_newest true other there met = refl
met_newest false other there met = search rules

pub rests_newest : {D : Type 0} (j : JournalView D) (there : Bool) → need_met (need_of (Resting j)) there ≡ need.Batch
    → is_renewed j.standing.layout ≡ true
rests_newest j there met =
    met_newest (is_renewed j.standing.layout) (is_some j.begun || nat_le j.standing.layout.slots (2 * j.standing.used)) there met

-- if a command is taken, the queue takes it
queue_causes : (stopped : Bool) (queue : Option SubmitFault) (checked : Option CommandFault)
    → (if stopped then Some fault.Stopped else first_cause checked queue) ≡ None → queue ≡ None
queue_causes true queue checked none = search rules
queue_causes false queue (Some f) none = search rules
queue_causes false queue None none = none

-- after a checkpoint the layout is the renewed one
done_layout : (was now layout : Layout) → now ≡ renewed was → renewed was ≡ layout → (renewed now ≡ layout) × (is_renewed now ≡ true)
done_layout was now layout done is = (ap renewed done ∙ (renewed-twice was ∙ is), ap is_renewed done ∙ renewed-renewed was)

module _ {D : Type 0} (layout : Layout) where
  queued_batch : (core : CoreView) (command : CommandValue) (stage : FlushStage D) (committed : Option CommittedView)
      → HasBatch core stage committed
      → HasBatch (queued core command) stage committed
  queued_batch core command stage None is = flight_stays core command stage is
  queued_batch core command stage (Some committed) is = (more_waits core command committed.commands is.0, is.1)

  -- one more command waits
  queued_served : (core : CoreView) (command : CommandValue) (stage : FlushStage D) (committed : Option CommittedView)
      → length core.queue + 1
      ≤ QUEUE_COMMANDS
      → IsServed layout core stage committed → IsServed layout (queued core command) stage committed
  queued_served core command stage committed room was = record {
    batch = queued_batch core command stage committed was.batch;
    layout_is = was.layout_is;
    newest = was.newest;
    few_calls = was.few_calls;
    few_wait = omega (arith, length-append core.queue (command ∷ []), room);
  }

  -- it holds of a core with other permits
  permits_batch : (core : CoreView) (permits : List (Option Grant)) (stage : FlushStage D) (committed : Option CommittedView)
      → HasBatch core stage committed
      → HasBatch (with_permits core permits) stage committed
  permits_batch core permits stage None is = flight_with core permits stage is
  permits_batch core permits stage (Some committed) is = (in_flight_with core permits committed.commands is.0, is.1)

  permits_served : (core : CoreView) (permits : List (Option Grant)) (stage : FlushStage D) (committed : Option CommittedView)
      → IsServed layout core stage committed → IsServed layout (with_permits core permits) stage committed
  permits_served core permits stage committed was = record {
    batch = permits_batch core permits stage committed was.batch;
    layout_is = was.layout_is;
    newest = was.newest;
    few_calls = was.few_calls;
    few_wait = was.few_wait;
  }

  -- a call of a port keeps it
  change_served : (old : CoreView) (change : Change) (stage : FlushStage D) (committed : Option CommittedView) → HasRoom old change
      → IsServed layout old stage committed → IsServed layout (changed old change) stage committed
  change_served old (Permits permits) stage committed room was = permits_served old permits stage committed was
  change_served old (Waits command permits) stage committed room was =
      permits_served (queued old command) permits stage committed (queued_served old command stage committed room.1 was)

  submit_served : (old new : CoreView) (command : CommandValue) (stage : FlushStage D) (committed : Option CommittedView)
      (answer : Result ℕ SubmitFault)
      → IsSubmit old command new answer → IsServed layout old stage committed → IsServed layout new stage committed
  submit_served old new command stage committed (Ok n) is was =
      subst (λ (c : CoreView). IsServed layout c stage committed) (sym is.2)
      (queued_served old command stage committed
      (room_in old (queue_causes (is_stopped old) (queue_fault old) (check (live old) command) is.0)) was)
  submit_served old new command stage committed (Err f) is was =
      subst (λ (c : CoreView). IsServed layout c stage committed) (sym is.1) was

  -- a batch is acknowledged
  acknowledged_served : (old new : CoreOnDiskView D) (committed : CommittedView) (told : List Event) → Acknowledges old new told
      → IsServed layout old.core old.flusher.stage (Some committed) → Served layout new
  acknowledged_served old new committed told is was =
      subst (λ (c : Option CommittedView). IsServed layout new.core new.flusher.stage c) (sym is.2)
      (subst (λ (f : FlusherView D). IsServed layout new.core f.stage None) (sym is.1)
      (record {
        batch = rests old.flusher.stage was.batch.1;
        layout_is = was.layout_is;
        newest = acknowledged_newest old.flusher.stage was.batch.1;
        few_calls = was.few_calls;
        few_wait = fewer;
      }))
    where
      rests : (s : FlushStage D) → IsAtRest s → HasFlight new.core s
      rests (Resting j) at = ap (λ (c : CoreView). c.flight) is.0
      rests (Opening c) at = absurd at
      rests (Given j b) at = absurd at
      rests (Checkpointing c b) at = absurd at
      rests (Writing w) at = absurd at
      rests (Publishing j written) at = absurd at
      rests (Failed d f) at = absurd at

      acknowledged_newest : (s : FlushStage D) → IsAtRest s → IsNewest s None
      acknowledged_newest (Resting j) at = tt
      acknowledged_newest (Opening c) at = absurd at
      acknowledged_newest (Given j b) at = absurd at
      acknowledged_newest (Checkpointing c b) at = absurd at
      acknowledged_newest (Writing w) at = absurd at
      acknowledged_newest (Publishing j written) at = absurd at
      acknowledged_newest (Failed d f) at = absurd at

      fewer : length new.core.queue ≤ QUEUE_COMMANDS
      fewer = omega (arith, ap (λ (c : CoreView). length c.queue) is.0, length-drop old.core.flight old.core.queue, was.few_wait)

  -- a batch is taken, because the flusher needs one
  taken_served : (old new : CoreView) (s t : FlushStage D) (batch : Batch) (room : ℕ) (there : Bool)
      → need_met (need_of s) there ≡ need.Batch → IsTaken old room new batch → HasTaken s batch t
      → IsServed layout old s None → IsServed layout new t None
  taken_served old new (Resting j) t batch room there met is has was =
      subst (λ (u : FlushStage D). IsServed layout new u None) (sym has) (record {
        batch = taken_flight old new room batch is;
        layout_is = was.layout_is;
        newest = rests_newest j there met;
        few_calls = tt;
        few_wait = subst (λ (cs : List CommandValue). length cs ≤ QUEUE_COMMANDS) (sym (ap (λ (c : CoreView). c.queue) is.others))
            was.few_wait;
      })
  taken_served old new (Opening c) t batch room there met is has was = absurd has
  taken_served old new (Given j b) t batch room there met is has was = absurd has
  taken_served old new (Checkpointing c b) t batch room there met is has was = absurd has
  taken_served old new (Writing w) t batch room there met is has was = absurd has
  taken_served old new (Publishing j written) t batch room there met is has was = absurd has
  taken_served old new (Failed d f) t batch room there met is has was = absurd has

  same_served : (old new : CoreOnDiskView D) → new ≡ old → Served layout old → Served layout new
  same_served old new same was = subst (λ (m : CoreOnDiskView D). Served layout m) (sym same) was

  -- it is kept if no batch is to be acknowledged before and after
  none_served : (old new : CoreOnDiskView D) → old.committed ≡ None → new.committed ≡ None
      → (IsServed layout old.core old.flusher.stage None → IsServed layout new.core new.flusher.stage None) → Served layout old
      → Served layout new
  none_served old new before after goes was =
      subst (λ (c : Option CommittedView). IsServed layout new.core new.flusher.stage c) (sym after)
      (goes (subst (λ (c : Option CommittedView). IsServed layout old.core old.flusher.stage c) before was))

  takes_served : (old new : CoreOnDiskView D) (told : List Event) (turned : Turned) → old.committed ≡ None → met_by old ≡ need.Batch
      → Takes old new told turned → Served layout old → Served layout new
  takes_served old new told Made none met is was =
      none_served old new none is.4
      (taken_served old.core new.core old.flusher.stage new.flusher.stage is.0 (room_of old.flusher.stage) (has_batch old.core) met is.1
      is.2) was
  takes_served old new told Idle none met is was = same_served old new is.1 was
  takes_served old new told Waited none met is was = same_served old new is.1 was

  -- after a disk call the journal has the layout, and a batch is written in the newest one
  abbrev KeepsLayout : FlushStage D → Type 0
  KeepsLayout stage = HasLayout layout stage × IsNewest stage None

  written_layout : (w : WritingView D) (new : FlushStage D) → HasMadeOfBatch w new → renewed w.standing.layout ≡ layout
      → is_renewed w.standing.layout ≡ true → KeepsLayout new
  written_layout w (Writing v) has is newest = (
    ap (λ (s : Standing). renewed s.layout) has.standing ∙ is,
    ap (λ (s : Standing). is_renewed s.layout) has.standing ∙ newest,
  )
  written_layout w (Publishing j written) has is newest = (
    ap (λ (s : Standing). renewed s.layout) has.standing ∙ is,
    ap (λ (s : Standing). is_renewed s.layout) has.standing ∙ newest,
  )
  written_layout w (Resting j) has is newest = absurd has
  written_layout w (Opening c) has is newest = absurd has
  written_layout w (Given j b) has is newest = absurd has
  written_layout w (Checkpointing c b) has is newest = absurd has
  written_layout w (Failed d f) has is newest = absurd has

  checkpointed_layout : (c : CheckpointingView D) (batch : Batch) (new : FlushStage D) → HasMadeOfCheckpoint c batch new
      → renewed c.standing.layout ≡ layout → KeepsLayout new
  checkpointed_layout c batch (Checkpointing d kept) has is = (ap (λ (s : Standing). renewed s.layout) has.0.standing ∙ is, tt)
  checkpointed_layout c batch (Given j kept) has is = done_layout c.standing.layout j.standing.layout layout has.0.layout is
  checkpointed_layout c batch (Resting j) has is = absurd has
  checkpointed_layout c batch (Opening d) has is = absurd has
  checkpointed_layout c batch (Writing w) has is = absurd has
  checkpointed_layout c batch (Publishing j written) has is = absurd has
  checkpointed_layout c batch (Failed d f) has is = absurd has

  begun_layout : (full : Bool) (j : JournalView D) (batch : Batch) (new : FlushStage D) → HasBegun full j batch new
      → renewed j.standing.layout ≡ layout → is_renewed j.standing.layout ≡ true → KeepsLayout new
  begun_layout true j batch new has is newest = checkpointed_layout (checkpoint_of j) batch new has.1 is
  begun_layout false j batch new has is newest = written_layout (writing_of j (values batch.commands.items)) new has.1 is newest

  advanced_layout : (c : CheckpointingView D) (new : FlushStage D) → HasAdvanced c new → renewed c.standing.layout ≡ layout
      → KeepsLayout new
  advanced_layout c (Resting j) (inl has) is = ((done_layout c.standing.layout j.standing.layout layout has.layout is).0, tt)
  advanced_layout c (Resting j) (inr (more, moved, may, has)) is =
      (ap (λ (k : JournalView D). renewed k.standing.layout) has ∙ ap (λ (s : Standing). renewed s.layout) moved.standing ∙ is, tt)
  advanced_layout c (Opening d) has is = (ap (λ (s : Standing). renewed s.layout) has.standing ∙ is, tt)
  advanced_layout c (Given j b) has is = absurd has
  advanced_layout c (Checkpointing d b) has is = absurd has
  advanced_layout c (Writing w) has is = absurd has
  advanced_layout c (Publishing j written) has is = absurd has
  advanced_layout c (Failed d f) has is = absurd has

  made_layout : (old new : FlushStage D) → HasMade old new → HasLayout layout old → IsNewest old None → KeepsLayout new
  made_layout (Given j batch) new has is newest =
      begun_layout (wants_checkpoint j.standing (values batch.commands.items)) j batch new has is newest
  made_layout (Checkpointing c batch) new has is newest = checkpointed_layout c batch new has is
  made_layout (Writing w) new has is newest = written_layout w new has is newest
  made_layout (Resting j) new has is newest = advanced_layout (checkpoint_of j) new has.1 is
  made_layout (Opening c) new has is newest = advanced_layout c new has is
  made_layout (Publishing j written) new has is newest = absurd has
  made_layout (Failed d f) new has is newest = absurd has

  failed_layout : (new : FlushStage D) (why : DiskFault) → failure_of new ≡ Some why → KeepsLayout new × HasFewCalls new
  failed_layout (Failed d f) why is = ((tt, tt), tt)
  failed_layout (Resting j) why is = search rules
  failed_layout (Opening c) why is = search rules
  failed_layout (Given j b) why is = search rules
  failed_layout (Checkpointing c b) why is = search rules
  failed_layout (Writing w) why is = search rules
  failed_layout (Publishing j written) why is = search rules

  module _ (disk : D → Disk) where
    called_served : (old new : CoreOnDiskView D) (told : List Event) → HasCalled disk old new told
        → IsServed layout old.core old.flusher.stage None
        → IsServed layout new.core new.flusher.stage None
    called_served old new [] is was =
        subst (λ (c : CoreView). IsServed layout c new.flusher.stage None) (sym is.0) (record {
          batch = made_flight old.core old.flusher.stage new.flusher.stage is.1.0 was.batch;
          layout_is = (made_layout old.flusher.stage new.flusher.stage is.1.0 was.layout_is was.newest).0;
          newest = (made_layout old.flusher.stage new.flusher.stage is.1.0 was.layout_is was.newest).1;
          few_calls = is.2;
          few_wait = was.few_wait;
        })
    called_served old new (e ∷ told) is was =
        subst (λ (c : CoreView). IsServed layout c new.flusher.stage None) (sym is.2) (record {
          batch = failed_flight old.core new.flusher.stage is.0 is.3.0;
          layout_is = (failed_layout new.flusher.stage is.0 is.3.0).0.0;
          newest = (failed_layout new.flusher.stage is.0 is.3.0).0.1;
          few_calls = (failed_layout new.flusher.stage is.0 is.3.0).1;
          few_wait = was.few_wait;
        })

    -- the batch that is durable is published
    published_served : (core : CoreView) (s : FlushStage D) (published : List CommandValue) (new : FlusherView D)
        (committed : CommittedView)
        → HasPublished s published new committed → IsServed layout core s None → IsServed layout core new.stage (Some committed)
    published_served core (Publishing j written) published new committed has was =
        subst (λ (f : FlusherView D). IsServed layout core f.stage (Some committed)) (sym has.0) (record {
          batch = (subst (λ (cs : List CommandValue). IsInFlight core cs) (sym has.2) was.batch, tt);
          layout_is = was.layout_is;
          newest = was.newest;
          few_calls = tt;
          few_wait = was.few_wait;
        })
    published_served core (Resting j) published new committed has was = absurd has
    published_served core (Opening c) published new committed has was = absurd has
    published_served core (Given j b) published new committed has was = absurd has
    published_served core (Checkpointing c b) published new committed has was = absurd has
    published_served core (Writing w) published new committed has was = absurd has
    published_served core (Failed d f) published new committed has was = absurd has

    publishes_served : (old new : CoreOnDiskView D) (told : List Event) → old.committed ≡ None → Publishes old new told → Served layout old
        → Served layout new
    publishes_served old new told none is was =
        subst (λ (c : Option CommittedView). IsServed layout new.core new.flusher.stage c) (sym is.3)
        (subst (λ (c : CoreView). IsServed layout c new.flusher.stage (Some is.0)) (sym is.2)
        (published_served old.core old.flusher.stage old.flusher.published new.flusher is.0 is.1
        (subst (λ (c : Option CommittedView). IsServed layout old.core old.flusher.stage c) none was)))

    serves_served : (need : Need) (old new : CoreOnDiskView D) (told : List Event) (turned : Turned) → old.committed ≡ None
        → met_by old ≡ need → Serves disk need old new told turned → Served layout old → Served layout new
    serves_served need.Batch old new told turned none met is was = takes_served old new told turned none met is was
    serves_served need.Disk old new told Made none met is was = none_served old new none is.1 (called_served old new told is.2) was
    serves_served need.Disk old new told Idle none met is was = absurd is
    serves_served need.BatchOrDisk old new told turned none met is was = absurd is
    serves_served need.Disk old new told Waited none met is was = same_served old new is.1 was
    serves_served need.Publish old new told turned none met is was = publishes_served old new told none is.1 was
    serves_served need.Stopped old new told turned none met is was = same_served old new is.1 was

    turn_served : (committed : Option CommittedView) (old new : CoreOnDiskView D) (told : List Event) (turned : Turned) → old.committed
        ≡ committed
        → IsTurn disk committed old new told turned → Served layout old → Served layout new
    turn_served (Some committed) old new told turned there is was =
        acknowledged_served old new committed told is.1
        (subst (λ (c : Option CommittedView). IsServed layout old.core old.flusher.stage c) there was)
    turn_served None old new told turned there is was = serves_served (met_by old) old new told turned there refl is was

    -- a step of a port keeps it
    port_served : {L : Type 0} (number : L → ℕ) (steps : L → LinkCall → LinkAnswer → L → Type 0) (there : Bool) (port : ℕ)
        (old new : CoreOnDiskView D)
        (ports last : PortsView L) (told : List Event) → StepsIf number steps there port old new ports last told → Served layout old
        → Served layout new
    port_served number steps true port old new ports last told is was =
        let becomes = step_becomes number steps is.before is.after is.link is.linked old.core new.core is.called is.status is.steps_as in
        subst (λ (c : Option CommittedView). IsServed layout new.core new.flusher.stage c) (sym is.committed)
        (subst (λ (f : FlusherView D). IsServed layout new.core f.stage old.committed) (sym is.flusher)
        (subst (λ (c : CoreView). IsServed layout c old.flusher.stage old.committed) (sym becomes.0.new_is)
        (change_served old.core becomes.0.change old.flusher.stage old.committed becomes.0.room was)))
    port_served number steps false port old new ports last told is was = same_served old new is.0 was

    -- each step keeps it
    pub step_served : {L : Type 0} (number : L → ℕ) (steps : L → LinkCall → LinkAnswer → L → Type 0) (step : Step)
        (old new : CoreOnDiskView D)
        (ports last : PortsView L) (told : List Event) (turned : Turned) → Does disk number steps step old new ports last told turned
        → Served layout old → Served layout new
    step_served number steps (Client change) old new ports last told turned is was =
        subst (λ (c : Option CommittedView). IsServed layout new.core new.flusher.stage c) (sym is.2.3)
        (subst (λ (f : FlusherView D). IsServed layout new.core f.stage old.committed) (sym is.2.2)
        (submit_served old.core new.core (command_of change) old.flusher.stage old.committed is.2.0 is.2.1 was))
    step_served number steps (Port port) old new ports last told turned is was =
        port_served number steps (nat_le port (length ports.links)) port old new ports last told is.1 was
    step_served number steps Flush old new ports last told turned is was = turn_served old.committed old new told turned refl is.1 was
