-- What holds of a checkpoint after its disk calls, while it is paused, and after the batches that are written meanwhile.
use Rattle.std.proofs.Common.{◌≡◌, ◌≤◌, ℕ, ◌+◌, ◌-◌, nat_lt, Bool, true, false, ◌&&◌, List, [], ◌∷◌, ◌++◌, length, Option, Some}
use Rattle.std.proofs.Common.{IfSome, refl, sym, ◌∙◌, ap, subst, arith, length-append}
use Rattle.iol_types.specs.Command.{CommandValue}
use Rattle.iol_types.specs.State.{State, after, legal}
use Rattle.iol_disk.specs.Content.{Content, EachImage}
use Rattle.iol_disk.specs.Disk.{Disk}
use Rattle.iol_layout.specs.Kept.{IsKeptAs}
use Rattle.iol_journal.specs.Batches.{sectors_for}
use Rattle.iol_journal.specs.Checkpoints.{target, first_of, all_but_first, log_with, with_batches, snapshot_writes, next_stage}
use Rattle.iol_journal.specs.Checkpoints.{IsStage, is_carried, log_after, owed_after}
use Rattle.iol_journal.specs.Drafts.{idle_at, AreaHolds, MeansSame, StageHolds, can_pause, may_pause, owing, stage_after}
use Rattle.iol_journal.specs.Drafts.{IsSnapshot, IsFresh}
use Rattle.iol_journal.specs.Drafts.{AreOwed, IsDrafted}
use Rattle.iol_layout.specs.Standings.{with_batch, IsResting}
use Rattle.iol_journal.specs.Planned.{CanFollow}
use Rattle.iol_layout.specs.Layout.{Layout, is_renewed, total}
use Rattle.iol_layout.specs.Meaning.{Log, Standing}
use Rattle.iol_journal.specs.declared.phase.Phase.TheVariants.{Body, SyncBody, Gate, SyncGate}
use Rattle.iol_journal.specs.declared.stage.CheckpointStage.{CheckpointStage}
use Rattle.iol_journal.specs.declared.stage.CheckpointStage.TheVariants.{ClearHeader, SyncHeader, CloseGate, SyncClosed}
use Rattle.iol_journal.specs.declared.stage.CheckpointStage.TheVariants.{CloseSlot, SyncSlots}
use Rattle.iol_journal.specs.declared.stage.CheckpointStage.TheVariants.{WriteHeader, WriteRecord, SyncRecords, Carry, OpenGate, SyncOpen}
use Rattle.iol_journal.proofs.BatchCalls.{sectors_for-some, rests_with}
use Rattle.iol_layout.proofs.Chains.{by_test}
use Rattle.iol_layout.proofs.Layouts.{renewed-newest}
use Rattle.iol_journal.proofs.StageCalls.{in_next}

-- a journal that can continue on a disk can continue on another one with the same number of sectors
pub resting_on : (d d' : Disk) (s : Standing) → d'.sectors ≡ d.sectors → IsResting d s → IsResting d' s
resting_on d d' s same resting = record {
  laid_out = resting.laid_out;
  fits = subst (λ (n : ℕ). total s.layout ≤ n) (sym same) resting.fits;
  within = resting.within;
  bound = resting.bound;
  begun = resting.begun;
  in_use = resting.in_use;
  count = resting.count;
}

pub drafted_on : (d d' : Disk) (s t : Standing) (owed : List (List CommandValue)) (stage : CheckpointStage) → d'.sectors ≡ d.sectors
    → IsDrafted d s t owed stage → IsDrafted d' s t owed stage
drafted_on d d' s t owed stage same drafted = record {
  laid_out = drafted.laid_out;
  some = drafted.some;
  resting = resting_on d d' t same drafted.resting;
  fresh = drafted.fresh;
  in_stage = drafted.in_stage;
  owed_are = drafted.owed_are;
  same = drafted.same;
  slots = drafted.slots;
}

-- ---- after a disk call

-- a batch becomes carried at only one stage
pub by_stage : {A : Type 0} (P : Log → List A → Type 0) (log : Log) (owed : List (List CommandValue)) (items : List A)
    (stage : CheckpointStage)
    → P log items → (is_carried stage ≡ true → P (log_with log (first_of owed)) (all_but_first items))
    → P (log_after log owed stage) (owed_after items stage)
by_stage P log owed items stage here moved = by_test (is_carried stage) _ (λ at. rw at (moved at)) (λ away. rw away here)

-- and a batch is owed there
pub some_owed : (slots records sectors owed : ℕ) (stage : CheckpointStage) → is_carried stage ≡ true
    → IsStage slots records sectors owed stage → 1 ≤ owed
some_owed slots records sectors owed (Carry p) at is = is.0
some_owed slots records sectors owed ClearHeader at is = absurd cc
some_owed slots records sectors owed SyncHeader at is = absurd cc
some_owed slots records sectors owed CloseGate at is = absurd cc
some_owed slots records sectors owed SyncClosed at is = absurd cc
some_owed slots records sectors owed (CloseSlot k) at is = absurd cc
some_owed slots records sectors owed SyncSlots at is = absurd cc
some_owed slots records sectors owed WriteHeader at is = absurd cc
some_owed slots records sectors owed (WriteRecord i) at is = absurd cc
some_owed slots records sectors owed SyncRecords at is = absurd cc
some_owed slots records sectors owed OpenGate at is = absurd cc
some_owed slots records sectors owed SyncOpen at is = absurd cc

-- the carried batch can be written, and with the batches after it the area ends as before
pub record IsMoved (t : Standing) (owed : List (List CommandValue)) : Type 0 where
  pub first : CanFollow t (first_of owed)
  pub behind : AreOwed (with_batch t (first_of owed)) (all_but_first owed)
  pub ends : with_batches (with_batch t (first_of owed)) (all_but_first owed) ≡ with_batches t owed

pub moved_one : (t : Standing) (owed : List (List CommandValue)) → 1 ≤ length owed → AreOwed t owed → IsMoved t owed
moved_one t [] some are = absurd (omega (arith, some))
moved_one t (batch ∷ batches) some are = record { first = are.0; behind = are.1; ends = refl }

-- after the records no more of them are written
fresh_next : (slots records sectors owed : ℕ) (stage : CheckpointStage) (P : Type 0) → (IsSnapshot stage → P)
    → IfSome (next_stage slots records sectors owed stage) (λ q. IsSnapshot q → P)
fresh_next slots records sectors owed ClearHeader P fresh = fresh
fresh_next slots records sectors owed SyncHeader P fresh = fresh
fresh_next slots records sectors owed CloseGate P fresh = fresh
fresh_next slots records sectors owed SyncClosed P fresh = fresh
fresh_next slots records sectors owed (CloseSlot k) P fresh =
    by_test (nat_lt (k + 1) slots) _ (λ less. rw less fresh) (λ last. rw last fresh)
fresh_next slots records sectors owed SyncSlots P fresh = fresh
fresh_next slots records sectors owed WriteHeader P fresh =
    by_test (nat_lt 0 records) _ (λ less. rw less fresh) (λ last. rw last fresh)
fresh_next slots records sectors owed (WriteRecord i) P fresh =
    by_test (nat_lt (i + 1) records) _ (λ less. rw less fresh) (λ last. rw last fresh)
fresh_next slots records sectors owed SyncRecords P fresh =
    by_test (nat_lt 0 owed) _ (λ less. rw less (λ none. absurd none)) (λ last. rw last (λ none. absurd none))
fresh_next slots records sectors owed (Carry (Body j)) P fresh = λ none. absurd none
fresh_next slots records sectors owed (Carry SyncBody) P fresh = λ none. absurd none
fresh_next slots records sectors owed (Carry Gate) P fresh = λ none. absurd none
fresh_next slots records sectors owed (Carry SyncGate) P fresh =
    by_test (nat_lt 0 (owed - 1)) _ (λ less. rw less (λ none. absurd none)) (λ last. rw last (λ none. absurd none))
fresh_next slots records sectors owed OpenGate P fresh = λ none. absurd none
fresh_next slots records sectors owed SyncOpen P fresh = tt

-- while the records are written no batch is carried
not_carried : (stage : CheckpointStage) → IsSnapshot stage → is_carried stage ≡ false
not_carried ClearHeader is = refl
not_carried SyncHeader is = refl
not_carried CloseGate is = refl
not_carried SyncClosed is = refl
not_carried (CloseSlot k) is = refl
not_carried SyncSlots is = refl
not_carried WriteHeader is = refl
not_carried (WriteRecord i) is = refl
not_carried SyncRecords is = refl
not_carried (Carry p) is = absurd is
not_carried OpenGate is = absurd is
not_carried SyncOpen is = absurd is

pub log_unmoved : (log : Log) (owed : List (List CommandValue)) (stage : CheckpointStage) → IsSnapshot stage
    → log_after log owed stage ≡ log
log_unmoved log owed stage is = let away = not_carried stage is in rw away refl

-- the next stage belongs to the snapshot only if this one does
pub snapshot_next : (slots records sectors owed : ℕ) (stage q : CheckpointStage) → next_stage slots records sectors owed stage ≡ Some q
    → IsSnapshot q
    → IsSnapshot stage
snapshot_next slots records sectors owed stage q is =
    subst (λ (next : Option CheckpointStage). IfSome next (λ r. IsSnapshot r → IsSnapshot stage)) is
    (fresh_next slots records sectors owed stage (IsSnapshot stage) (λ here. here))

module _ (d d' : Disk) (s : Standing) (log : Log) (owed : List (List CommandValue)) (stage q : CheckpointStage)
    (same : d'.sectors ≡ d.sectors)
    (drafted : IsDrafted d s (target s log) owed stage) (next : stage_after (target s log) owed stage ≡ Some q) where
  abbrev t : Standing
  t = target s log

  abbrev t' : Standing
  t' = target s (log_after log owed stage)

  -- a batch is carried only if one is owed
  moved : is_carried stage ≡ true → IsMoved t owed
  moved at =
      moved_one t owed
      (some_owed t.layout.slots (length (snapshot_writes t)) (sectors_for t (first_of owed)) (length owed) stage at drafted.in_stage)
      drafted.owed_are

  fresh : IsSnapshot q → IsFresh t'
  fresh is =
      let was = snapshot_next t.layout.slots (length (snapshot_writes t)) (sectors_for t (first_of owed)) (length owed) stage q next is in
      subst (λ (l : Log). IsFresh (target s l)) (sym (log_unmoved log owed stage was)) (drafted.fresh was)

  -- the sectors of records matter only while they are still to be written
  abbrev IsThen : ℕ → CheckpointStage → Type 0
  IsThen records = IsStage t.layout.slots records (sectors_for t' (first_of (owed_after owed stage))) (length (owed_after owed stage))

  in_stage_next : IsThen (length (snapshot_writes t')) q
  in_stage_next =
      records-by q (subst (λ (then_ : Option CheckpointStage). IfSome then_ (IsThen (length (snapshot_writes t)))) next
      (in_next t owed t.layout.slots (length (snapshot_writes t)) stage drafted.some drafted.in_stage)) (λ snapshot.
      ap (λ (l : Log). length (snapshot_writes (target s l))) (sym (log_unmoved log owed stage (was_snapshot snapshot))))
    where
      was_snapshot : IsSnapshot q → IsSnapshot stage
      was_snapshot =
          snapshot_next t.layout.slots (length (snapshot_writes t)) (sectors_for t (first_of owed)) (length owed) stage q next

      records-by : (q : CheckpointStage) → IsThen (length (snapshot_writes t)) q
          → (IsSnapshot q → length (snapshot_writes t) ≡ length (snapshot_writes t')) → IsThen (length (snapshot_writes t')) q
      records-by (WriteRecord i) is same = omega (arith, is, same tt)
      records-by ClearHeader is same = is
      records-by SyncHeader is same = is
      records-by CloseGate is same = is
      records-by SyncClosed is same = is
      records-by (CloseSlot k) is same = is
      records-by SyncSlots is same = is
      records-by WriteHeader is same = is
      records-by SyncRecords is same = is
      records-by (Carry p) is same = is
      records-by OpenGate is same = is
      records-by SyncOpen is same = is

  pub drafted_next : IsDrafted d' s t' (owed_after owed stage) q
  drafted_next = record {
    laid_out = drafted.laid_out;
    some = drafted.some;
    resting = by_stage (λ l o. IsResting d' (target s l)) log owed owed stage (resting_on d d' t same drafted.resting) (λ at.
        rests_with d' t (first_of owed) (moved at).first (resting_on d d' t same drafted.resting).fits drafted.resting.laid_out
        drafted.resting.begun
        drafted.resting.count);
    fresh = fresh;
    in_stage = in_stage_next;
    owed_are = by_stage (λ l o. AreOwed (target s l) o) log owed owed stage drafted.owed_are (λ at. (moved at).behind);
    same = by_stage (λ l o. MeansSame (with_batches (target s l) o) s) log owed owed stage drafted.same (λ at.
        subst (λ (end : Standing). MeansSame end s) (sym (moved at).ends) drafted.same);
    slots = by_stage (λ l o. (with_batches (target s l) o).used ≤ s.used) log owed owed stage drafted.slots (λ at.
        subst (λ (end : Standing). end.used ≤ s.used) (sym (moved at).ends) drafted.slots);
  }

-- ---- paused

-- if a checkpoint may be paused, its gate is not yet written
pub pauses : (s : Standing) (stage : CheckpointStage) → may_pause s stage ≡ true → can_pause stage ≡ true
pauses s stage is = by_both (is_renewed s.layout) (can_pause stage) is
  where
    by_both : (newest can : Bool) → (newest && can) ≡ true → can ≡ true
    by_both true can is = is
    by_both false can is = absurd cc

-- at another stage at which the gate is not written it may be paused too
pub pauses_at : (s : Standing) (stage next : CheckpointStage) → may_pause s stage ≡ true → can_pause next ≡ true → may_pause s next ≡ true
pauses_at s stage next is can = by_both (is_renewed s.layout) (can_pause stage) is
  where
    by_both : (newest was : Bool) → (newest && was) ≡ true → (newest && can_pause next) ≡ true
    by_both true was is = can
    by_both false was is = absurd cc

-- what holds if a checkpoint may be paused
pub holds_parts : (size : ℕ) (s t : Standing) (owed : List (List CommandValue)) (stage : CheckpointStage) (c : Content)
    → can_pause stage ≡ true
    → StageHolds size s t owed stage c → EachImage c (IsKeptAs size s (idle_at stage)) × AreaHolds size t owed stage c
holds_parts size s t owed ClearHeader c may holds = holds
holds_parts size s t owed SyncHeader c may holds = holds
holds_parts size s t owed CloseGate c may holds = holds
holds_parts size s t owed SyncClosed c may holds = holds
holds_parts size s t owed (CloseSlot k) c may holds = holds
holds_parts size s t owed SyncSlots c may holds = holds
holds_parts size s t owed WriteHeader c may holds = holds
holds_parts size s t owed (WriteRecord i) c may holds = holds
holds_parts size s t owed SyncRecords c may holds = holds
holds_parts size s t owed (Carry p) c may holds = holds
holds_parts size s t owed OpenGate c may holds = (holds.0, holds.1)
holds_parts size s t owed SyncOpen c may holds = absurd cc

-- ---- one more batch is owed

pub first-more : (owed : List (List CommandValue)) (batch : List CommandValue) → 1 ≤ length owed
    → first_of (owed ++ batch ∷ []) ≡ first_of owed
first-more [] batch some = absurd (omega (arith, some))
first-more (first ∷ behind) batch some = refl

pub batches-more : (t : Standing) (owed : List (List CommandValue)) (batch : List CommandValue)
    → with_batches t (owed ++ batch ∷ []) ≡ with_batch (with_batches t owed) batch
batches-more t [] batch = refl
batches-more t (first ∷ behind) batch = batches-more (with_batch t first) behind batch

pub batches-layout : (t : Standing) (owed : List (List CommandValue)) → (with_batches t owed).layout ≡ t.layout
batches-layout t [] = refl
batches-layout t (first ∷ behind) = batches-layout (with_batch t first) behind

pub batches-epoch : (t : Standing) (owed : List (List CommandValue)) → (with_batches t owed).epoch ≡ t.epoch
batches-epoch t [] = refl
batches-epoch t (first ∷ behind) = batches-epoch (with_batch t first) behind

pub owed-more : (t : Standing) (owed : List (List CommandValue)) (batch : List CommandValue) → AreOwed t owed
    → CanFollow (with_batches t owed) batch → AreOwed t (owed ++ batch ∷ [])
owed-more t [] batch are follows = (follows, tt)
owed-more t (first ∷ behind) batch are follows = (are.0, owed-more (with_batch t first) behind batch are.1 follows)

-- what holds if a batch was written while the checkpoint was paused
pub holds_owing : (size : ℕ) (s t : Standing) (owed : List (List CommandValue)) (batch : List CommandValue) (slots records sectors : ℕ)
    (stage : CheckpointStage) (c : Content)
    → can_pause stage ≡ true → IsStage slots records sectors (length owed) stage → EachImage c (IsKeptAs size s (idle_at stage))
    → AreaHolds size t owed stage c → StageHolds size s t (owed ++ batch ∷ []) (owing stage) c
holds_owing size s t owed batch slots records sectors ClearHeader c may is kept holds = (kept, holds)
holds_owing size s t owed batch slots records sectors SyncHeader c may is kept holds = (kept, holds)
holds_owing size s t owed batch slots records sectors CloseGate c may is kept holds = (kept, holds)
holds_owing size s t owed batch slots records sectors SyncClosed c may is kept holds = (kept, holds)
holds_owing size s t owed batch slots records sectors (CloseSlot k) c may is kept holds = (kept, holds)
holds_owing size s t owed batch slots records sectors SyncSlots c may is kept holds = (kept, holds)
holds_owing size s t owed batch slots records sectors WriteHeader c may is kept holds = (kept, holds)
holds_owing size s t owed batch slots records sectors (WriteRecord i) c may is kept holds = (kept, holds)
holds_owing size s t owed batch slots records sectors SyncRecords c may is kept holds = (kept, holds)
holds_owing size s t owed batch slots records sectors (Carry p) c may is kept holds = (kept, rw (first-more owed batch is.0) holds)
holds_owing size s t owed batch slots records sectors OpenGate c may is kept holds =
    (kept, (holds, λ j below. absurd (omega (arith, below))))
holds_owing size s t owed batch slots records sectors SyncOpen c may is kept holds = absurd cc

in_owing : (t : Standing) (owed : List (List CommandValue)) (batch : List CommandValue) (slots records : ℕ) (stage : CheckpointStage)
    → can_pause stage ≡ true → IsStage slots records (sectors_for t (first_of owed)) (length owed) stage
    → IsStage slots records (sectors_for t (first_of (owed ++ batch ∷ []))) (length (owed ++ batch ∷ [])) (owing stage)
in_owing t owed batch slots records ClearHeader may is = is
in_owing t owed batch slots records SyncHeader may is = is
in_owing t owed batch slots records CloseGate may is = is
in_owing t owed batch slots records SyncClosed may is = is
in_owing t owed batch slots records (CloseSlot k) may is = is
in_owing t owed batch slots records SyncSlots may is = is
in_owing t owed batch slots records WriteHeader may is = is
in_owing t owed batch slots records (WriteRecord i) may is = is
in_owing t owed batch slots records SyncRecords may is = is
in_owing t owed batch slots records (Carry p) may is =
    (omega (arith, length-append owed (batch ∷ [])), rw (first-more owed batch is.0) is.1)
in_owing t owed batch slots records OpenGate may is =
    (omega (arith, length-append owed (batch ∷ [])), omega (arith, sectors_for-some t (first_of (owed ++ batch ∷ []))))
in_owing t owed batch slots records SyncOpen may is = absurd cc

pub snapshot_owing : (stage : CheckpointStage) → IsSnapshot (owing stage) → IsSnapshot stage
snapshot_owing ClearHeader is = is
snapshot_owing SyncHeader is = is
snapshot_owing CloseGate is = is
snapshot_owing SyncClosed is = is
snapshot_owing (CloseSlot k) is = is
snapshot_owing SyncSlots is = is
snapshot_owing WriteHeader is = is
snapshot_owing (WriteRecord i) is = is
snapshot_owing SyncRecords is = is
snapshot_owing (Carry p) is = is
snapshot_owing OpenGate is = absurd is
snapshot_owing SyncOpen is = is

module _ (d d' : Disk) (s : Standing) (log : Log) (owed : List (List CommandValue)) (stage : CheckpointStage) (batch : List CommandValue)
    (same : d'.sectors ≡ d.sectors) (drafted : IsDrafted d s (target s log) owed stage) (follows : CanFollow s batch)
    (may : can_pause stage ≡ true) where
  abbrev u : Standing
  u = target s log

  -- the batch can be written after the owed ones
  pub follows_owed : CanFollow (with_batches u owed) batch
  follows_owed =
      let layout = batches-layout u owed ∙ renewed-newest s.layout follows.written in record {
        written = ap (λ (l : Layout). l.version) layout ∙ follows.written;
        room = omega (arith, follows.room, drafted.slots, ap (λ (l : Layout). l.slots) layout);
        batch = follows.batch;
        passes = subst (λ (state : State). legal state batch ≡ true) (sym drafted.same.1) follows.passes;
        bound = omega (arith, follows.bound, drafted.same.0);
      }

  pub drafted_owing : IsDrafted d' (with_batch s batch) (target (with_batch s batch) log) (owed ++ batch ∷ []) (owing stage)
  drafted_owing =
      let more = batches-more u owed batch in record {
        laid_out = drafted.laid_out;
        some = drafted.some;
        resting = resting_on d d' u same drafted.resting;
        fresh = λ is. drafted.fresh (snapshot_owing stage is);
        in_stage = in_owing u owed batch u.layout.slots (length (snapshot_writes u)) stage may drafted.in_stage;
        owed_are = owed-more u owed batch drafted.owed_are follows_owed;
        same = (
          ap (λ (end : Standing). end.number) more ∙ ap (λ (n : ℕ). n + length batch) drafted.same.0,
          ap (λ (end : Standing). end.state) more ∙ ap (λ (state : State). after state batch) drafted.same.1,
        );
        slots = omega (arith, ap (λ (end : Standing). end.used) more, drafted.slots);
      }
