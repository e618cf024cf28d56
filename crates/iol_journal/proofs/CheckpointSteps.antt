-- What a step of a checkpoint does to the disk, by its one call.
use Rattle.std.proofs.Common.{◌≡◌, ◌<◌, ℕ, ◌+◌, List, [], ◌∷◌, length, slice_get, get_or, Option, Some, None, unwrap_or}
use Rattle.std.proofs.Common.{true, IsTrue, Result, Ok, Err, refl, sym, ◌∙◌, ap, subst, arith}
use Rattle.iol_types.specs.Command.{CommandValue}
use Rattle.iol_disk.specs.Calls.{Call, sync, content_after, Made, FailedIn, Makes, MakesFirst}
use Rattle.iol_disk.specs.Disk.{Disk}
use Rattle.iol_disk.specs.Moments.{LeavesOnly}
use Rattle.iol_disk.specs.declared.fault.DiskFault.{DiskFault}
use Rattle.iol_disk.proofs.DiskLaws.{HasOnTheWay, made_leaves, failed_leaves}
use Rattle.iol_disk.specs.Content.{EachImage}
use Rattle.iol_layout.specs.AreaPlans.{AreRecords, IsAreaPlan, write_of}
use Rattle.iol_journal.specs.Batches.{sectors_for}
use Rattle.iol_journal.specs.Checkpoints.{target, checkpointed, with_batches, header_of_target}
use Rattle.iol_journal.specs.Checkpoints.{first_of, snapshot_writes, call_at, next_stage}
use Rattle.iol_journal.specs.Checkpoints.{first_stage, IsStage, log_after, owed_after, stage_calls}
use Rattle.iol_journal.specs.Drafts.{MeansSame, StageHolds, stage_after, IsDrafted}
use Rattle.iol_layout.specs.Standings.{IsResting}
use Rattle.iol_layout.specs.Kept.{KeptMeans, IsKeptAs}
use Rattle.iol_layout.specs.Layout.{Layout, other, renewed, is_renewed}
use Rattle.iol_layout.proofs.Layouts.{size-renewed, renewed-is, renewed-some, renewed-ports, one-ahead}
use Rattle.iol_layout.specs.Meaning.{Log, Standing}
use Rattle.iol_journal.specs.Phases.{IsAtRest}
use Rattle.iol_layout.specs.declared.area.Area.{Area}
use Rattle.iol_layout.specs.declared.area_plan.AreaPlan.{AreaPlan}
use Rattle.iol_layout.specs.declared.idle.Idle.{Idle}
use Rattle.iol_layout.specs.declared.idle.Idle.TheVariants.{Older, Closed}
use Rattle.iol_layout.specs.declared.records.RecordSector.{RecordSector}
use Rattle.iol_journal.specs.declared.stage.CheckpointStage.{CheckpointStage}
use Rattle.iol_journal.specs.declared.stage.CheckpointStage.TheVariants.{ClearHeader, SyncHeader, CloseGate, SyncClosed}
use Rattle.iol_journal.specs.declared.stage.CheckpointStage.TheVariants.{CloseSlot, SyncSlots}
use Rattle.iol_journal.specs.declared.stage.CheckpointStage.TheVariants.{WriteHeader, WriteRecord, SyncRecords, Carry, OpenGate, SyncOpen}
use Rattle.iol_journal.proofs.DraftLaws.{resting_on}
use Rattle.iol_journal.proofs.StageCalls.{calls_after, first_call}
use Rattle.iol_journal.proofs.StageMeanings.{on_the_way}
use Rattle.iol_journal.proofs.Stages.{HoldsAfter, none_owed, goes_on}
use Rattle.iol_layout.proofs.Plans.{found-there}

-- ---- the parts of a plan

-- the call that writes a part
pub record-call : (t : Standing) (owed : List (List CommandValue)) (plan : AreaPlan) (i : ℕ) (found : RecordSector)
    → IsAreaPlan t.layout t.area (header_of_target t) t.state plan → i < length plan.records.items
    → found ≡ get_or plan.records.items i found → write_of found ≡ call_at t owed (WriteRecord i)
record-call t owed plan i found planned below is =
    sym (ap (λ (calls : List Call). unwrap_or (slice_get calls i) sync) (sym planned.records_are)
    ∙ ap (λ (call : Option Call). unwrap_or call sync) (found-there plan.records.items i found below is))

-- ---- where a checkpoint begins

in_first : (slots records sectors : ℕ) (idle : Idle) → IsStage slots records sectors 0 (first_stage idle)
in_first slots records sectors Older = tt
in_first slots records sectors Closed = tt

pub drafted-first : (d : Disk) (s : Standing) (idle : Idle) → IsResting d s → (is_renewed s.layout ≡ true → 0 < s.used)
    → AreRecords (renewed s.layout) (other s.area) s.state → IsDrafted d s (checkpointed s) [] (first_stage idle)
drafted-first d s idle resting used records = record {
  laid_out = resting.laid_out;
  some = renewed-some s.layout resting.laid_out;
  resting = record {
    laid_out = renewed-is s.layout resting.laid_out;
    fits = omega (arith, size-renewed s.layout resting.laid_out, resting.fits);
    within = omega arith;
    bound = resting.bound;
    begun = one-ahead s.layout s.epoch s.number resting.begun (λ newest. resting.in_use (used newest));
    in_use = λ some. absurd (omega (arith, some));
    count = resting.count ∙ sym (renewed-ports s.layout);
  };
  fresh = λ is. record { none = refl; records = records };
  in_stage = in_first (renewed s.layout).slots (length (snapshot_writes (checkpointed s))) (sectors_for (checkpointed s) []) idle;
  owed_are = tt;
  same = (refl, refl);
  slots = omega arith;
}

-- ---- a step

module _ (s : Standing) (log : Log) (owed : List (List CommandValue)) (stage : CheckpointStage) (old new : Disk)
    (drafted : IsDrafted old s (target s log) owed stage) where
  abbrev t : Standing
  t = target s log

  abbrev t' : Standing
  t' = target s (log_after log owed stage)

  abbrev owed' : List (List CommandValue)
  owed' = owed_after owed stage

  abbrev call : Call
  call = call_at t owed stage

  abbrev next : Option CheckpointStage
  next = stage_after t owed stage

  abbrev Before : Type 0
  Before = IsTrue old.honest → StageHolds old.sectors s t owed stage old.content

  behind : IsTrue old.honest → Before → HoldsAfter old.sectors s t' owed' next (content_after call old.content)
  behind h holds =
      goes_on old.sectors s log owed
      (size-renewed s.layout drafted.laid_out) drafted.resting.begun drafted.resting.bound drafted.owed_are drafted.same
      stage old.content drafted.fresh drafted.in_stage (holds h)

  -- at any moment of the call
  pub moment : (result : Result Unit DiskFault) → Makes (call ∷ []) old new result → Before
      → LeavesOnly old new (KeptMeans old.sectors s.number s.state)
  moment result makes holds = by_result result makes
    where
      way : IsTrue old.honest → HasOnTheWay (call ∷ []) old.content (KeptMeans old.sectors s.number s.state)
      way h = on_the_way old.sectors s t t' owed owed' stage next old.content (holds h) (behind h holds)

      by_result : (result : Result Unit DiskFault) → Makes (call ∷ []) old new result
          → LeavesOnly old new (KeptMeans old.sectors s.number s.state)
      by_result (Ok done) made = made_leaves _ old new _ made way
      by_result (Err told) failed = failed_leaves _ told old new _ failed way

  -- after the call that succeeded
  made-behind : Made (call ∷ []) old new → Before → IsTrue new.honest → HoldsAfter new.sectors s t' owed' next new.content
  made-behind made holds h =
      let h_old = subst IsTrue made.after.honest h in
      subst (λ (n : ℕ). HoldsAfter n s t' owed' next new.content) (sym made.after.sectors)
      (subst (HoldsAfter old.sectors s t' owed' next) (sym (made.after.content h_old)) (behind h_old holds))

  pub underway : (q : CheckpointStage) → next ≡ Some q → Made (call ∷ []) old new → Before → IsTrue new.honest
      → StageHolds new.sectors s t' owed' q new.content
  underway q is made holds h =
      subst (λ (then_ : Option CheckpointStage). HoldsAfter new.sectors s t' owed' then_ new.content) is (made-behind made holds h)

  -- the last stage, at which no batch is owed
  last_stage : (stage : CheckpointStage) (slots records sectors count : ℕ) → next_stage slots records sectors count stage ≡ None
      → stage ≡ SyncOpen
  last_stage SyncOpen slots records sectors count is = refl
  last_stage ClearHeader slots records sectors count is = cc
  last_stage SyncHeader slots records sectors count is = cc
  last_stage CloseGate slots records sectors count is = cc
  last_stage SyncClosed slots records sectors count is = cc
  last_stage (CloseSlot k) slots records sectors count is = cc
  last_stage SyncSlots slots records sectors count is = cc
  last_stage WriteHeader slots records sectors count is = cc
  last_stage (WriteRecord i) slots records sectors count is = cc
  last_stage SyncRecords slots records sectors count is = cc
  last_stage (Carry p) slots records sectors count is = cc
  last_stage OpenGate slots records sectors count is = cc

  at_end : next ≡ None → stage ≡ SyncOpen
  at_end is = last_stage stage t.layout.slots (length (snapshot_writes t)) (sectors_for t (first_of owed)) (length owed) is

  unmoved : next ≡ None → log_after log owed stage ≡ log
  unmoved is = ap (log_after log owed) (at_end is)

  -- no batch is owed at the last call
  pub no_batch : next ≡ None → length owed ≡ 0
  no_batch is =
      subst (IsStage t.layout.slots (length (snapshot_writes t)) (sectors_for t (first_of owed)) (length owed)) (at_end is) drafted.in_stage

  -- so both areas mean the same
  pub means_same : next ≡ None → MeansSame t s
  means_same is = none_owed s t owed (no_batch is) drafted.same

  pub durable : next ≡ None → Made (call ∷ []) old new → Before → IsAtRest new t Older
  durable is made holds h =
      let whole = subst (λ (then_ : Option CheckpointStage). HoldsAfter new.sectors s t' owed' then_ new.content) is
      (made-behind made holds h) in
      subst (λ (l : Log). EachImage new.content (IsKeptAs new.sectors (target s l) Older)) (unmoved is) whole.0

  -- after the last call
  pub resting : Made (call ∷ []) old new → IsResting new t
  resting made = resting_on old new t made.after.sectors drafted.resting

  order : stage_calls t owed stage ≡ call ∷ calls_after t' owed' next
  order = first_call t owed stage drafted.some drafted.in_stage

  -- the first of the remaining calls is made, or fails
  pub makes_first : (q : CheckpointStage) → next ≡ Some q → Made (call ∷ []) old new
      → MakesFirst (stage_calls t owed stage) (stage_calls t' owed' q) old new (Ok tt)
  makes_first q is made = record {
    call = call;
    order = order ∙ ap (λ (then_ : Option CheckpointStage). call ∷ calls_after t' owed' then_) is;
    makes = made;
  }

  pub makes_last : next ≡ None → Made (call ∷ []) old new → MakesFirst (stage_calls t owed stage) [] old new (Ok tt)
  makes_last is made = record {
    call = call;
    order = order ∙ ap (λ (then_ : Option CheckpointStage). call ∷ calls_after t' owed' then_) is;
    makes = made;
  }

  pub fails_first : (told : DiskFault) → FailedIn (call ∷ []) told old new
      → (others : List Call) × MakesFirst (stage_calls t owed stage) others old new (Err told)
  fails_first told failed = (calls_after t' owed' next, record { call = call; order = order; makes = failed })

-- with no batch
pub with_none : (t : Standing) (owed : List (List CommandValue)) → length owed ≡ 0 → with_batches t owed ≡ t
with_none t [] none = refl
with_none t (batch ∷ batches) none = absurd (omega (arith, none))

-- the journal after the last call, as the code makes it
pub ends_as : (s : Standing) (log : Log) (l : Layout) (a : Area) → l ≡ renewed s.layout → a ≡ other s.area → MeansSame (target s log) s
    → record { layout = l; area = a; epoch = s.epoch + 1; used = log.used; number = s.number; state = s.state }
    ≡ target s log
ends_as s log l a laid_out there (number, state) = λ i. record {
  layout = laid_out i;
  area = there i;
  epoch = s.epoch + 1;
  used = log.used;
  number = sym number i;
  state = sym state i;
}
