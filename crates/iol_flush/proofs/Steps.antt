-- The first disk call of a given batch, and the published list during each disk call.
use Rattle.std.proofs.Common.{◌≡◌, refl, ◌<◌, ◌+◌, ◌*◌, ◌||◌, not, nat_le, ◌++◌, ℕ, Bool, true, false, if◌then◌else◌, List, [], length}
use Rattle.std.proofs.Common.{inl, inr, Option, Some, None, is_some, Result, Ok, Err, sym, ◌∙◌, ap, subst, arith, length-append, rules}
use Rattle.std.proofs.lemmas.List.Sums.{fold-append}
use Rattle.iol_types.specs.Command.{CommandValue}
use Rattle.iol_types.specs.State.{State, apply, after}
use Rattle.iol_disk.specs.Calls.{Call, MakesFirst}
use Rattle.iol_disk.specs.Disk.{Disk}
use Rattle.iol_disk.specs.declared.fault.DiskFault.{DiskFault}
use Rattle.iol_front.specs.Fronts.{Start}
use Rattle.iol_journal.specs.Batches.{batch_calls}
use Rattle.iol_journal.specs.Begin.{batch_refusal, fits_no_area, wants_checkpoint, follows}
use Rattle.iol_journal.specs.Layout.{is_renewed}
use Rattle.iol_journal.specs.BegunViews.{BegunView}
use Rattle.iol_journal.specs.CheckpointViews.{CheckpointingView, begun_in, checkpoint_of, stages_left}
use Rattle.iol_journal.specs.Checkpointing.{IsCheckpointMoved, IsCheckpointDone}
use Rattle.iol_journal.specs.Pauses.{calls_of}
use Rattle.iol_journal.specs.Journals.{JournalView, WritingView, calls_left, writing_of}
use Rattle.iol_journal.specs.Planned.{LeadsTo, written_after}
use Rattle.iol_journal.specs.Body.{values}
use Rattle.iol_journal.specs.Standings.{with_batch}
use Rattle.iol_journal.specs.Meaning.{Standing}
use Rattle.iol_journal.specs.declared.history.History.{History}
use Rattle.iol_journal.specs.declared.batch.Batch.{Batch}
use Rattle.iol_journal.specs.declared.refusal.BeginCause.{BeginCause}
use Rattle.iol_journal.specs.declared.refusal.BeginCause.TheVariants.{TooLarge, NeedsCheckpoint, Misfit}
use Rattle.iol_flush.specs.Stages.{is_due, disk_of, next_calls, calls_owed, failure_of, paused_calls}
use Rattle.iol_flush.specs.Stages.{HasHistory, StandsAfter, IsInStep}
use Rattle.iol_flush.specs.Steps.{HasMadeOfBatch, HasBegun, HasMadeOfCheckpoint, HasMade, HasAdvanced, IsLeftPaused, IsDiskStep}
use Rattle.iol_flush.specs.declared.need.Need.TheVariants as need
use Rattle.iol_flush.specs.declared.fault.FlushFault.{FlushFault}
use Rattle.iol_flush.specs.declared.fault.FlushFault.TheVariants as fault
use Rattle.iol_flush.specs.declared.stage.FlushStage.{FlushStage}
use Rattle.iol_flush.specs.declared.stage.FlushStage.TheVariants.{Resting, Opening, Given, Checkpointing, Writing, Publishing, Failed}

-- an accepted batch finds free slots
abbrev Refused : Bool → Bool → Bool → Option BeginCause
Refused large full fits = if large then Some TooLarge else if full then Some NeedsCheckpoint else if fits then None else Some Misfit

finds_slot : (large full fits : Bool) → Refused large full fits ≡ None → full ≡ false
finds_slot true full fits none = search rules
finds_slot false true fits none = search rules
finds_slot false false fits none = refl

pub not_full : {D : Type 0} (j : JournalView D) (batch : Batch) → batch_refusal j.standing batch.first (values batch.commands.items) ≡ None
    → wants_checkpoint j.standing (values batch.commands.items) ≡ false
not_full j batch none =
    finds_slot (fits_no_area j.standing (values batch.commands.items))
    (wants_checkpoint j.standing (values batch.commands.items)) (follows j.standing batch.first (values batch.commands.items)) none

next_of_batch : {D : Type 0} (j : JournalView D) (batch : Batch) → batch_refusal j.standing batch.first (values batch.commands.items) ≡ None
    → next_calls (Given j batch) ≡ batch_calls j.standing (values batch.commands.items)
next_of_batch j batch none =
    ap (λ (full : Bool). if full then calls_of j.standing (begun_in j) else batch_calls j.standing (values batch.commands.items))
    (not_full j batch none)

-- a batch before its first disk call
pub record IsBegun {D : Type 0} (j : JournalView D) (batch : Batch) (w : WritingView D) : Type 0 where
  pub same : w ≡ writing_of j (values batch.commands.items)
  pub refusal : batch_refusal j.standing batch.first (values batch.commands.items) ≡ None
  pub calls : calls_left w ≡ batch_calls j.standing (values batch.commands.items)

pub begun : {D : Type 0} (disk : D → Disk) (j : JournalView D) (batch : Batch) (w : WritingView D) (new : FlushStage D)
    (answer : Result Unit FlushFault)
    → IsBegun j batch w → IsDiskStep disk (Writing w) new answer → IsDiskStep disk (Given j batch) new answer
begun {D} disk j batch w new (Ok done) is step = (
  subst (λ (full : Bool). HasBegun full j batch new) (sym (not_full j batch is.refusal))
      (is.refusal, subst (λ (v : WritingView D). HasMadeOfBatch v new) is.same step.0),
  subst (λ (calls : List Call). MakesFirst calls (calls_owed new) (disk j.disk) (disk (disk_of new)) (Ok done)) (is.calls
      ∙ sym (next_of_batch j batch is.refusal))
      (subst (λ (d : D). MakesFirst (calls_left w) (calls_owed new) (disk d) (disk (disk_of new)) (Ok done))
      (ap (λ (v : WritingView D). v.disk) is.same) step.1),
)
begun {D} disk j batch w new (Err (fault.Disk cause)) is step = (
  step.0,
  step.1,
  subst (λ (calls : List Call). MakesFirst calls step.1 (disk j.disk) (disk (disk_of new)) (Err cause)) (is.calls
      ∙ sym (next_of_batch j batch is.refusal))
      (subst (λ (d : D). MakesFirst (calls_left w) step.1 (disk d) (disk (disk_of new)) (Err cause))
      (ap (λ (v : WritingView D). v.disk) is.same) step.2),
)
begun disk j batch w new (Err fault.Stopped) is step = let stopped : need.Disk ≡ need.Stopped = step.0 in search rules
begun disk j batch w new (Err fault.Memory) is step = absurd step.0
begun disk j batch w new (Err fault.Misfit) is step = absurd step.0

-- a new checkpoint is begun if half of the slots are used, and at least one is
pub half_used : {D : Type 0} (j : JournalView D) (half : Bool) → half ≡ nat_le j.standing.layout.slots (2 * j.standing.used)
    → (half ≡ true → 0 < j.standing.used) → is_due j ≡ true → j.begun ≡ None → is_renewed j.standing.layout ≡ true → 0 < j.standing.used
half_used j half is used due none newest =
    used (is ∙ (ap (λ (paused : Option BegunView). is_some paused || nat_le j.standing.layout.slots (2 * j.standing.used)) (sym none)
    ∙ (ap (λ (test : Bool). not test || (is_some j.begun || nat_le j.standing.layout.slots (2 * j.standing.used))) (sym newest) ∙ due)))

next_of_due : {D : Type 0} (j : JournalView D) → is_due j ≡ true → next_calls (Resting j) ≡ calls_of j.standing (begun_in j)
next_of_due j due = ap (λ (due : Bool). if due then calls_of j.standing (begun_in j) else []) due

-- a disk call of the checkpoint is made while no batch is given
pub gone_on : {D : Type 0} (disk : D → Disk) (j : JournalView D) (c : CheckpointingView D) (new : FlushStage D)
    (answer : Result Unit FlushFault)
    → is_due j ≡ true → c ≡ checkpoint_of j → IsDiskStep disk (Opening c) new answer → IsDiskStep disk (Resting j) new answer
gone_on {D} disk j c new (Ok done) due same step = (
  (due, subst (λ (d : CheckpointingView D). HasAdvanced d new) same step.0),
  subst (λ (calls : List Call). MakesFirst calls (calls_owed new) (disk j.disk) (disk (disk_of new)) (Ok done)) (sym (next_of_due j due))
      (subst (λ (d : CheckpointingView D). MakesFirst (stages_left d) (calls_owed new) (disk d.disk) (disk (disk_of new)) (Ok done)) same
      step.1),
)
gone_on {D} disk j c new (Err (fault.Disk cause)) due same step = (
  step.0,
  step.1,
  subst (λ (calls : List Call). MakesFirst calls step.1 (disk j.disk) (disk (disk_of new)) (Err cause)) (sym (next_of_due j due))
      (subst (λ (d : CheckpointingView D). MakesFirst (stages_left d) step.1 (disk d.disk) (disk (disk_of new)) (Err cause)) same step.2),
)
gone_on disk j c new (Err fault.Stopped) due same step = let stopped : need.Disk ≡ need.Stopped = step.0 in search rules
gone_on disk j c new (Err fault.Memory) due same step = absurd step.0
gone_on disk j c new (Err fault.Misfit) due same step = absurd step.0

-- the checkpoint is paused after that disk call if it can be
pub set_aside_step : {D : Type 0} (disk : D → Disk) (c more : CheckpointingView D) (new : FlushStage D) → IsCheckpointMoved c more
    → MakesFirst (stages_left c) (stages_left more) (disk c.disk) (disk more.disk) (Ok tt) → IsLeftPaused more new
    → IsDiskStep disk (Opening c) new (Ok tt)
set_aside_step {D} disk c more (Resting j) moved made aside =
    subst (λ (k : JournalView D). IsDiskStep disk (Opening c) (Resting k) (Ok tt)) (sym aside.1) (inr (more, moved, aside.0, refl), made)
set_aside_step {D} disk c more (Opening d) moved made aside =
    subst (λ (e : CheckpointingView D). IsDiskStep disk (Opening c) (Opening e) (Ok tt)) (sym aside) (moved, made)
set_aside_step disk c more (Given j b) moved made aside = absurd aside
set_aside_step disk c more (Checkpointing d b) moved made aside = absurd aside
set_aside_step disk c more (Writing w) moved made aside = absurd aside
set_aside_step disk c more (Publishing j written) moved made aside = absurd aside
set_aside_step disk c more (Failed left f) moved made aside = absurd aside

-- the checkpoint is done
pub ended_step : {D : Type 0} (disk : D → Disk) (c : CheckpointingView D) (j : JournalView D) → IsCheckpointDone c j
    → MakesFirst (stages_left c) [] (disk c.disk) (disk j.disk) (Ok tt) → IsDiskStep disk (Opening c) (Resting j) (Ok tt)
ended_step disk c j is made = (
  inl is,
  subst (λ (begun : Option BegunView). MakesFirst (stages_left c) (paused_calls j.standing begun) (disk c.disk) (disk j.disk) (Ok tt))
      (sym is.none) made,
)

-- a journal that is at the end of a list is, after a batch, at the end of the list with the batch
with_more : (start : Start) (published commands : List CommandValue) (s t : Standing) (h i : History) → t ≡ with_batch s commands → i
    ≡ written_after h commands
    → StandsAfter start published s h → StandsAfter start (published ++ commands) t i
with_more start published commands s t h i standing history was = record {
  history_is = record {
    first = ap (λ h. h.first) history ∙ was.history_is.first;
    start_is = ap (λ h. h.start) history ∙ was.history_is.start_is;
    list = ap (λ h. h.commands) history ∙ ap (λ (cs : List CommandValue). cs ++ commands) was.history_is.list;
  };
  number = ap (λ s. s.number) standing ∙ (ap (λ (n : ℕ). n + length commands) was.number ∙ omega (arith, length-append published commands));
  state = ap (λ s. s.state) standing
      ∙ (ap (λ (st : State). after st commands) was.state ∙ sym (fold-append apply start.state published commands));
}

-- the published list stays in step
same_in_step : (start : Start) (published : List CommandValue) (s t : Standing) (h i : History) → t ≡ s → i ≡ h
    → StandsAfter start published s h → StandsAfter start published t i
same_in_step start published s t h i standing history was =
    subst (λ (u : Standing). StandsAfter start published u i) (sym standing)
    (subst (λ (k : History). StandsAfter start published s k) (sym history) was)

written_in_step : {D : Type 0} (start : Start) (published : List CommandValue) (w : WritingView D) (new : FlushStage D)
    → HasMadeOfBatch w new → StandsAfter start published w.standing w.history → IsInStep start new published
written_in_step start published w (Writing v) has was =
    same_in_step start published w.standing v.standing w.history v.history has.standing has.history was
written_in_step start published w (Publishing j written) has was = (
  subst (λ (cs : List CommandValue). StandsAfter start (published ++ cs) j.standing j.history) (sym has.commands)
      (with_more start published w.commands w.standing j.standing w.history j.history has.standing has.history was),
  has.first ∙ ap (λ (n : ℕ). n + 1) was.number,
)
written_in_step start published w (Resting j) has was = absurd has
written_in_step start published w (Opening c) has was = absurd has
written_in_step start published w (Given j b) has was = absurd has
written_in_step start published w (Checkpointing c b) has was = absurd has
written_in_step start published w (Failed d f) has was = absurd has

-- after a checkpoint the journal is at the same number and state
done_in_step : {D : Type 0} (start : Start) (published : List CommandValue) (c : CheckpointingView D) (j : JournalView D)
    → IsCheckpointDone c j → StandsAfter start published c.standing c.history → StandsAfter start published j.standing j.history
done_in_step start published c j is was = record {
  history_is = subst (HasHistory start published) (sym is.history) was.history_is;
  number = is.number ∙ was.number;
  state = is.state ∙ was.state;
}

checkpointed_in_step : {D : Type 0} (start : Start) (published : List CommandValue) (c : CheckpointingView D) (batch : Batch)
    (new : FlushStage D)
    → HasMadeOfCheckpoint c batch new → StandsAfter start published c.standing c.history → IsInStep start new published
checkpointed_in_step start published c batch (Checkpointing d kept) has was =
    same_in_step start published c.standing d.standing c.history d.history has.0.standing has.0.history was
checkpointed_in_step start published c batch (Given j kept) has was = done_in_step start published c j has.0 was
checkpointed_in_step start published c batch (Resting j) has was = absurd has
checkpointed_in_step start published c batch (Opening d) has was = absurd has
checkpointed_in_step start published c batch (Writing w) has was = absurd has
checkpointed_in_step start published c batch (Publishing j written) has was = absurd has
checkpointed_in_step start published c batch (Failed d f) has was = absurd has

advanced_in_step : {D : Type 0} (start : Start) (published : List CommandValue) (c : CheckpointingView D) (new : FlushStage D)
    → HasAdvanced c new → StandsAfter start published c.standing c.history → IsInStep start new published
advanced_in_step start published c (Resting j) (inl is) was = done_in_step start published c j is was
advanced_in_step {D} start published c (Resting j) (inr (more, moved, may, is)) was =
    same_in_step start published c.standing j.standing c.history j.history
    (ap (λ (k : JournalView D). k.standing) is ∙ moved.standing) (ap (λ (k : JournalView D). k.history) is ∙ moved.history) was
advanced_in_step start published c (Opening d) is was =
    same_in_step start published c.standing d.standing c.history d.history is.standing is.history was
advanced_in_step start published c (Given j b) is was = absurd is
advanced_in_step start published c (Checkpointing d b) is was = absurd is
advanced_in_step start published c (Writing w) is was = absurd is
advanced_in_step start published c (Publishing j written) is was = absurd is
advanced_in_step start published c (Failed d f) is was = absurd is

begun_in_step : {D : Type 0} (start : Start) (published : List CommandValue) (full : Bool) (j : JournalView D) (batch : Batch)
    (new : FlushStage D)
    → HasBegun full j batch new → StandsAfter start published j.standing j.history → IsInStep start new published
begun_in_step start published true j batch new has was = checkpointed_in_step start published (checkpoint_of j) batch new has.1 was
begun_in_step start published false j batch new has was =
    written_in_step start published (writing_of j (values batch.commands.items)) new has.1 was

made_in_step : {D : Type 0} (start : Start) (published : List CommandValue) (old new : FlushStage D) → HasMade old new
    → IsInStep start old published → IsInStep start new published
made_in_step start published (Given j batch) new has was =
    begun_in_step start published (wants_checkpoint j.standing (values batch.commands.items)) j batch new has was
made_in_step start published (Checkpointing c batch) new has was = checkpointed_in_step start published c batch new has was
made_in_step start published (Writing w) new has was = written_in_step start published w new has was
made_in_step start published (Resting j) new has was = advanced_in_step start published (checkpoint_of j) new has.1 was
made_in_step start published (Opening c) new has was = advanced_in_step start published c new has was
made_in_step start published (Publishing j written) new has was = absurd has
made_in_step start published (Failed d f) new has was = absurd has

failed_in_step : {D : Type 0} (start : Start) (published : List CommandValue) (new : FlushStage D) (cause : DiskFault) → failure_of new
    ≡ Some cause → IsInStep start new published
failed_in_step start published (Failed d f) cause is = tt
failed_in_step start published (Resting j) cause is = search rules
failed_in_step start published (Opening c) cause is = search rules
failed_in_step start published (Given j b) cause is = search rules
failed_in_step start published (Checkpointing c b) cause is = search rules
failed_in_step start published (Writing w) cause is = search rules
failed_in_step start published (Publishing j written) cause is = search rules

pub stays_in_step : {D : Type 0} (disk : D → Disk) (start : Start) (published : List CommandValue) (old new : FlushStage D)
    (answer : Result Unit FlushFault)
    → IsDiskStep disk old new answer → IsInStep start old published → IsInStep start new published
stays_in_step disk start published old new (Ok done) step was = made_in_step start published old new step.0 was
stays_in_step disk start published old new (Err (fault.Disk cause)) step was = failed_in_step start published new cause step.0
stays_in_step {D} disk start published old new (Err fault.Stopped) step was =
    subst (λ (s : FlushStage D). IsInStep start s published) (sym step.1) was
stays_in_step {D} disk start published old new (Err fault.Memory) step was =
    subst (λ (s : FlushStage D). IsInStep start s published) (sym step.1) was
stays_in_step {D} disk start published old new (Err fault.Misfit) step was =
    subst (λ (s : FlushStage D). IsInStep start s published) (sym step.1) was

-- what a journal has done leads to its number and state
pub stands_after : (start : Start) (commands : List CommandValue) (s : Standing) (h : History) → HasHistory start commands h → LeadsTo s h
    → StandsAfter start commands s h
stands_after start commands s h has leads = record {
  history_is = has;
  number = leads.number
      ∙ (ap (λ (n : ℕ). n + length h.commands) has.first ∙ ap (λ (cs : List CommandValue). start.number + length cs) has.list);
  state = leads.state ∙ (ap (λ (st : State). after st h.commands) has.start_is ∙ ap (after start.state) has.list);
}
