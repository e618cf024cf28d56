-- What the disk calls of a checkpoint require of it, and its next stage.
use Rattle.std.proofs.Common.{◌≡◌, ◌≤◌, ◌<◌, ℕ, List, [], ◌∷◌, length, map, get_or, refl, sym, ◌∙◌, ap, subst, arith}
use Rattle.std.proofs.lemmas.List.{length-map}
use Rattle.iol_types.specs.Command.{CommandValue}
use Rattle.iol_disk.specs.Disk.{Disk}
use Rattle.iol_disk.specs.Calls.{write}
use Rattle.iol_disk.specs.Gate.{open_gate}
use Rattle.iol_journal.specs.Batches.{body_for, sectors_for, call_of, IsPhase}
use Rattle.iol_layout.specs.AreaPlans.{IsAreaPlan, write_of}
use Rattle.iol_layout.specs.AreaWrites.{IsRow}
use Rattle.iol_journal.specs.BegunParts.{log_of, commands_owed, AreEncoded, IsBegun}
use Rattle.iol_journal.specs.Checkpoints.{target, first_of, header_of_target, snapshot_writes, next_stage, IsStage}
use Rattle.iol_journal.specs.Drafts.{stage_after, IsSnapshot, AreOwed}
use Rattle.iol_journal.specs.Planned.{CanFollow, IsEncoded}
use Rattle.iol_layout.specs.Layout.{other, renewed, slot_at, body_at}
use Rattle.iol_layout.specs.Meaning.{Standing}
use Rattle.iol_journal.specs.declared.begun.Begun.{Begun}
use Rattle.iol_journal.specs.declared.begun.OwedBatch.{OwedBatch}
use Rattle.iol_layout.specs.Octets.{sector_of}
use Rattle.iol_journal.specs.declared.phase.Phase.{Phase}
use Rattle.iol_journal.specs.declared.phase.Phase.TheVariants.{Body, SyncBody, Gate, SyncGate}
use Rattle.iol_journal.specs.declared.stage.CheckpointStage.{CheckpointStage}
use Rattle.iol_journal.specs.declared.stage.CheckpointStage.TheVariants.{ClearHeader, SyncHeader, CloseGate, SyncClosed}
use Rattle.iol_journal.specs.declared.stage.CheckpointStage.TheVariants.{CloseSlot, SyncSlots}
use Rattle.iol_journal.specs.declared.stage.CheckpointStage.TheVariants.{WriteHeader, WriteRecord, SyncRecords, Carry, OpenGate, SyncOpen}
use Rattle.iol_layout.proofs.Plans.{length-plan, plan-row}
use Rattle.iol_journal.proofs.Phases.{IsFit, fit_for}

-- the first owed batch
pub record HasFirst (t : Standing) (items : List OwedBatch) : Type 0 where
  pub first : OwedBatch
  pub behind : List OwedBatch
  pub are : items ≡ first ∷ behind
  pub encoded : IsEncoded t first.batch.commands first.body

pub has_first : (t : Standing) (items : List OwedBatch) → 1 ≤ length (commands_owed items) → AreEncoded t items → HasFirst t items
has_first t [] some encoded = absurd (omega (arith, some))
has_first t (first ∷ behind) some encoded = record { first = first; behind = behind; are = refl; encoded = encoded.0 }

-- the front batch, as it is looked up
pub front_is : (items : List OwedBatch) (first : OwedBatch) → 0 < length items → first ≡ get_or items 0 first
    → (behind : List OwedBatch) × (items ≡ first ∷ behind)
front_is [] first some is = absurd (omega (arith, some))
front_is (o ∷ behind) first some is = (behind, ap (λ (f : OwedBatch). f ∷ behind) (sym is))

-- a call of a batch depends only on where its slots are
pub same_call : (u t : Standing) (body : List ℕ) (p : Phase) → u.layout ≡ t.layout → u.area ≡ t.area → u.used ≡ t.used
    → call_of u body p ≡ call_of t body p
same_call u t body (Body j) layout area used = λ i. write (body_at (layout i) (area i) (used i) j) (sector_of body j)
same_call u t body SyncBody layout area used = refl
same_call u t body Gate layout area used = λ i. write (slot_at (layout i) (area i) (used i)) open_gate
same_call u t body SyncGate layout area used = refl

-- the next stage, by the numbers that it depends on at each stage
stage-by : (slots records records' sectors sectors' count : ℕ) (stage : CheckpointStage) → (IsSnapshot stage → records ≡ records')
    → ((p : Phase) → stage ≡ Carry p → sectors ≡ sectors')
    → next_stage slots records sectors count stage ≡ next_stage slots records' sectors' count stage
stage-by slots records records' sectors sectors' count WriteHeader same carry =
    ap (λ n. next_stage slots n sectors count WriteHeader) (same tt)
stage-by slots records records' sectors sectors' count (WriteRecord i) same carry =
    ap (λ n. next_stage slots n sectors count (WriteRecord i)) (same tt)
stage-by slots records records' sectors sectors' count (Carry p) same carry =
    ap (λ n. next_stage slots records n count (Carry p)) (carry p refl)
stage-by slots records records' sectors sectors' count ClearHeader same carry = refl
stage-by slots records records' sectors sectors' count SyncHeader same carry = refl
stage-by slots records records' sectors sectors' count CloseGate same carry = refl
stage-by slots records records' sectors sectors' count SyncClosed same carry = refl
stage-by slots records records' sectors sectors' count (CloseSlot k) same carry = refl
stage-by slots records records' sectors sectors' count SyncSlots same carry = refl
stage-by slots records records' sectors sectors' count SyncRecords same carry = refl
stage-by slots records records' sectors sectors' count OpenGate same carry = refl
stage-by slots records records' sectors sectors' count SyncOpen same carry = refl

is_stage-by : (slots records records' sectors sectors' count : ℕ) (stage : CheckpointStage) → (IsSnapshot stage → records ≡ records')
    → ((p : Phase) → stage ≡ Carry p → sectors ≡ sectors') → IsStage slots records' sectors' count stage
    → IsStage slots records sectors count stage
is_stage-by slots records records' sectors sectors' count (WriteRecord i) same carry is = omega (arith, is, same tt)
is_stage-by slots records records' sectors sectors' count (Carry p) same carry is =
    (is.0, subst (λ (n : ℕ). IsPhase n p) (sym (carry p refl)) is.1)
is_stage-by slots records records' sectors sectors' count ClearHeader same carry is = is
is_stage-by slots records records' sectors sectors' count SyncHeader same carry is = is
is_stage-by slots records records' sectors sectors' count CloseGate same carry is = is
is_stage-by slots records records' sectors sectors' count SyncClosed same carry is = is
is_stage-by slots records records' sectors sectors' count (CloseSlot k) same carry is = is
is_stage-by slots records records' sectors sectors' count SyncSlots same carry is = is
is_stage-by slots records records' sectors sectors' count WriteHeader same carry is = is
is_stage-by slots records records' sectors sectors' count SyncRecords same carry is = is
is_stage-by slots records records' sectors sectors' count OpenGate same carry is = is
is_stage-by slots records records' sectors sectors' count SyncOpen same carry is = is

module _ (d : Disk) (s : Standing) (b : Begun) (is : IsBegun d s b) where
  abbrev t : Standing
  t = target s (log_of b)

  abbrev owed : List (List CommandValue)
  owed = commands_owed b.owed.items

  length-owed : length owed ≡ length b.owed.items
  length-owed = length-map b.owed.items (λ (o : OwedBatch). o.batch.commands)

  -- until the records are durable, the plan has all their sectors
  pub same_records : IsSnapshot b.stage → length b.plan.records.items ≡ length (snapshot_writes t)
  same_records snapshot = length-plan (renewed s.layout) (other s.area) (header_of_target t) b.carried.start b.plan (is.plan snapshot)

  -- the first batch, if one is carried
  pub record IsFirst (p : Phase) (o : OwedBatch) : Type 0 where
    pub encoded : IsEncoded t o.batch.commands o.body
    pub follows : CanFollow t o.batch.commands
    pub fit : IsFit t o.batch.commands (body_for t o.batch.commands) (sectors_for t o.batch.commands)
    pub is_first : first_of owed ≡ o.batch.commands
    pub in_phase : IsPhase o.body.sectors p

  pub first_is : (p : Phase) (o : OwedBatch) (behind : List OwedBatch) → b.stage ≡ Carry p → b.owed.items ≡ o ∷ behind → IsFirst p o
  first_is p o behind at are =
      let encoded = (subst (AreEncoded t) are is.encoded).0 in
      let follows = (subst (λ (items : List OwedBatch). AreOwed t (commands_owed items)) are is.drafted.owed_are).0 in
      let first = ap (λ (items : List OwedBatch). first_of (commands_owed items)) are in
      let in_stage = subst (IsStage (renewed s.layout).slots (length (snapshot_writes t)) (sectors_for t (first_of owed)) (length owed)) at
      is.drafted.in_stage in record {
        encoded = encoded;
        follows = follows;
        fit = fit_for t o.batch.commands follows is.drafted.resting.begun;
        is_first = first;
        in_phase = subst (λ (n : ℕ). IsPhase n p) (ap (sectors_for t) first ∙ sym encoded.sectors) in_stage.1;
      }

  -- a batch is owed if one is carried
  pub some_first : (p : Phase) → b.stage ≡ Carry p → HasFirst t b.owed.items
  some_first p at =
      let in_stage = subst (IsStage (renewed s.layout).slots (length (snapshot_writes t)) (sectors_for t (first_of owed)) (length owed)) at
      is.drafted.in_stage in
      has_first t b.owed.items in_stage.0 is.encoded

  -- the sectors are those of its first batch
  pub first-sectors : (sectors : ℕ) → ((o : OwedBatch) (behind : List OwedBatch) → b.owed.items ≡ o ∷ behind → sectors ≡ o.body.sectors)
      → (p : Phase) → b.stage ≡ Carry p → sectors ≡ sectors_for t (first_of owed)
  first-sectors sectors told p at =
      let there = some_first p at in
      told there.first there.behind there.are ∙ there.encoded.sectors
      ∙ ap (sectors_for t) (sym (ap (λ (items : List OwedBatch). first_of (commands_owed items)) there.are))

  -- a first batch has few sectors
  pub few_sectors : (sectors : ℕ) → (renewed s.layout).slots ≤ 256
      → ((o : OwedBatch) (behind : List OwedBatch) → b.owed.items ≡ o ∷ behind → sectors ≡ o.body.sectors)
      → (b.owed.items ≡ [] → sectors ≡ 0) → sectors < 1000000
  few_sectors sectors few told none = of b.owed.items refl
    where
      of : (items : List OwedBatch) → b.owed.items ≡ items → sectors < 1000000
      of [] are = omega (arith, none are)
      of (o ∷ behind) are =
          let encoded = (subst (AreEncoded t) are is.encoded).0 in
          let follows = (subst (λ (items : List OwedBatch). AreOwed t (commands_owed items)) are is.drafted.owed_are).0 in
          let fit = fit_for t o.batch.commands follows is.drafted.resting.begun in
          omega (arith, told o behind are, encoded.sectors, fit.short, fit.room, few)

  -- what `CheckpointStage::next` asks, and what it answers
  pub asks_stage : (records sectors count : ℕ) → records ≡ length b.plan.records.items → count ≡ length b.owed.items
      → ((o : OwedBatch) (behind : List OwedBatch) → b.owed.items ≡ o ∷ behind → sectors ≡ o.body.sectors)
      → IsStage (renewed s.layout).slots records sectors count b.stage
  asks_stage records sectors count are counted told =
      subst (λ (n : ℕ). IsStage (renewed s.layout).slots records sectors n b.stage) (length-owed ∙ sym counted)
      (is_stage-by (renewed s.layout).slots records _ sectors _ (length owed) b.stage (λ snapshot. are ∙ same_records snapshot)
      (first-sectors sectors told) is.drafted.in_stage)

  pub answers_stage : (records sectors count : ℕ) → records ≡ length b.plan.records.items → count ≡ length b.owed.items
      → ((o : OwedBatch) (behind : List OwedBatch) → b.owed.items ≡ o ∷ behind → sectors ≡ o.body.sectors)
      → next_stage (renewed s.layout).slots records sectors count b.stage ≡ stage_after t owed b.stage
  answers_stage records sectors count are counted told =
      ap (λ (n : ℕ). next_stage (renewed s.layout).slots records sectors n b.stage) (counted ∙ sym length-owed)
      ∙ stage-by (renewed s.layout).slots records _ sectors _ (length owed) b.stage (λ snapshot. are ∙ same_records snapshot)
      (first-sectors sectors told)

-- ---- the plan, until the records are durable

module _ {d : Disk} {s : Standing} {b : Begun} (is : IsBegun d s b) {stage : CheckpointStage} (at : b.stage ≡ stage) where
  pub plan_of : IsSnapshot stage
      → IsAreaPlan (renewed s.layout) (other s.area) (header_of_target (target s (log_of b))) b.carried.start b.plan
  plan_of snapshot = is.plan (subst IsSnapshot (sym at) snapshot)

  -- its records are within the disk
  pub row_of : IsSnapshot stage → IsRow 0 d.sectors (map write_of b.plan.records.items)
  row_of snapshot =
      let here = subst IsSnapshot (sym at) snapshot in
      plan-row d.sectors (renewed s.layout) (other s.area) (header_of_target (target s
      (log_of b))) b.carried.start b.plan is.drafted.resting.fits
      (is.drafted.fresh here).records (is.plan here)

-- the next sector to be written is one of the plan's
pub record_below : {d : Disk} {s : Standing} {b : Begun} (is : IsBegun d s b) (i : ℕ) → b.stage ≡ WriteRecord i
    → i < length b.plan.records.items
record_below {d} {s} {b} is i at =
    let t = target s (log_of b) in
    let owed = commands_owed b.owed.items in
    let in_stage = subst (IsStage (renewed s.layout).slots (length (snapshot_writes t)) (sectors_for t (first_of owed)) (length owed)) at
    is.drafted.in_stage in
    omega (arith, in_stage, same_records d s b is (subst IsSnapshot (sym at) tt))
