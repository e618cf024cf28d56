-- What holds of a begun checkpoint, before and after its disk calls and the batches that are written while it is
-- paused.
use Rattle.std.proofs.Common.{◌≡◌, ◌≤◌, ℕ, ◌+◌, true, List, [], ◌∷◌, ◌++◌, length}
use Rattle.std.proofs.Common.{drop, Option, Some, None, refl, sym, ◌∙◌, ap, subst, arith}
use Rattle.std.proofs.lemmas.List.{map-append}
use Rattle.std.specs.Int.{w64, to_be_bytes}
use Rattle.std.specs.Option.{option_map}
use Rattle.iol_types.specs.Command.{CommandValue}
use Rattle.iol_disk.specs.Disk.{Disk}
use Rattle.iol_layout.specs.AreaPlans.{IsAreaPlan}
use Rattle.iol_journal.specs.Batches.{body_for}
use Rattle.iol_journal.specs.BegunViews.{BegunView}
use Rattle.iol_journal.specs.BegunParts.{log_of, commands_owed, view_of, AreEncoded, IsBegun}
use Rattle.iol_journal.specs.BegunParts.{IsSetAside, IsOwing, AreOwing, IsSameBegun, AreSame}
use Rattle.iol_layout.specs.Body.{body_octets}
use Rattle.iol_journal.specs.Pauses.{IsPaused, IsBeside}
use Rattle.iol_journal.specs.Checkpoints.{target, first_of, all_but_first, with_batches, header_of_target}
use Rattle.iol_journal.specs.Checkpoints.{is_carried, log_after, owed_after}
use Rattle.iol_journal.specs.Drafts.{can_pause, may_pause, idle_at, owing, with_owed, stage_after, begun_after, IsSnapshot, IsDrafted}
use Rattle.iol_layout.specs.Standings.{with_batch}
use Rattle.iol_journal.specs.Planned.{CanFollow, IsEncoded}
use Rattle.iol_layout.specs.Layout.{Layout, other, renewed}
use Rattle.iol_layout.specs.Meaning.{Log, Standing}
use Rattle.iol_layout.specs.declared.area.Area.{Area}
use Rattle.iol_layout.specs.declared.area_plan.AreaPlan.{AreaPlan}
use Rattle.iol_journal.specs.declared.begun.Begun.{Begun}
use Rattle.iol_journal.specs.declared.begun.OwedBatch.{OwedBatch}
use Rattle.iol_layout.specs.declared.body.EncodedBatch.{EncodedBatch}
use Rattle.iol_layout.specs.declared.body.TheConstants.{EPOCH_OCTETS}
use Rattle.iol_layout.specs.declared.idle.Idle.{Idle}
use Rattle.iol_journal.specs.declared.stage.CheckpointStage.{CheckpointStage}
use Rattle.iol_journal.specs.declared.stage.CheckpointStage.TheVariants.{ClearHeader, SyncHeader, CloseGate, SyncClosed}
use Rattle.iol_journal.specs.declared.stage.CheckpointStage.TheVariants.{CloseSlot, SyncSlots}
use Rattle.iol_journal.specs.declared.stage.CheckpointStage.TheVariants.{WriteHeader, WriteRecord, SyncRecords, Carry, OpenGate, SyncOpen}
use Rattle.iol_journal.proofs.BatchCalls.{sectors_for-same}
use Rattle.iol_layout.proofs.Bodies.{body_octets-under}
use Rattle.iol_layout.proofs.Chains.{by_test}
use Rattle.iol_journal.proofs.CheckpointSteps.{means_same, no_batch, with_none, ends_as}
use Rattle.iol_journal.proofs.DraftLaws.{by_stage, some_owed, moved_one, log_unmoved, snapshot_next, drafted_next}
use Rattle.iol_journal.proofs.DraftLaws.{drafted_on, pauses, pauses_at, holds_parts, batches-epoch, snapshot_owing, drafted_owing}

-- ---- after a disk call

-- the commands of the batches owed after it
commands-behind : (items : List OwedBatch) (stage : CheckpointStage)
    → commands_owed (owed_after items stage) ≡ owed_after (commands_owed items) stage
commands-behind items stage = by_test (is_carried stage) _ (λ at. rw at (of items)) (λ away. rw away refl)
  where
    of : (items : List OwedBatch) → commands_owed (all_but_first items) ≡ all_but_first (commands_owed items)
    of [] = refl
    of (first ∷ behind) = refl

encoded-behind : (t : Standing) (items : List OwedBatch) → 1 ≤ length (commands_owed items) → AreEncoded t items
    → AreEncoded (with_batch t (first_of (commands_owed items))) (all_but_first items)
encoded-behind t [] some encoded = absurd (omega (arith, some))
encoded-behind t (first ∷ behind) some encoded = encoded.1

-- the plan of an area with this log
abbrev PlanOf : Standing → Log → AreaPlan → Type 0
PlanOf s log plan = IsAreaPlan (renewed s.layout) (other s.area) (header_of_target (target s log)) log.state plan

pub begun_next : (d d' : Disk) (s : Standing) (b new : Begun) (q : CheckpointStage) → d'.sectors ≡ d.sectors → IsBegun d s b
    → stage_after (target s (log_of b)) (commands_owed b.owed.items) b.stage ≡ Some q → new.plan ≡ b.plan
    → log_of new ≡ log_after (log_of b) (commands_owed b.owed.items) b.stage → new.owed.items ≡ owed_after b.owed.items b.stage
    → new.stage ≡ q → IsBegun d' s new
begun_next d d' s b new q same is next plan log owed stage =
    let commands : commands_owed new.owed.items ≡ owed_after (commands_owed b.owed.items) b.stage =
    ap commands_owed owed ∙ commands-behind b.owed.items b.stage in
    let drafted = drafted_next d d' s (log_of b) (commands_owed b.owed.items) b.stage q same is.drafted next in record {
      drafted =
          subst (λ (l : Log). IsDrafted d' s (target s l) (commands_owed new.owed.items) new.stage) (sym log)
          (subst (λ (o : List (List CommandValue)).
          IsDrafted d' s (target s (log_after (log_of b) (commands_owed b.owed.items) b.stage)) o new.stage) (sym commands)
          (subst (λ (r : CheckpointStage). IsDrafted d' s (target s (log_after (log_of b) (commands_owed b.owed.items) b.stage))
          (owed_after (commands_owed b.owed.items) b.stage) r) (sym stage) drafted));
      plan = λ snapshot.
          let was = snapshot_next (renewed s.layout).slots _ _ _ b.stage q next (subst IsSnapshot stage snapshot) in
          subst (PlanOf s (log_of new)) (sym plan)
          (subst (λ (l : Log). PlanOf s l b.plan) (sym (log
          ∙ log_unmoved (log_of b) (commands_owed b.owed.items) b.stage was)) (is.plan was));
      encoded =
          subst (λ (l : Log). AreEncoded (target s l) new.owed.items) (sym log)
          (subst (AreEncoded (target s (log_after (log_of b) (commands_owed b.owed.items) b.stage))) (sym owed)
          (by_stage (λ l items. AreEncoded (target s l) items) (log_of b) (commands_owed b.owed.items) b.owed.items b.stage is.encoded
          (λ at. encoded-behind (target s (log_of b)) b.owed.items
          (some_owed (renewed s.layout).slots _ _ _ b.stage at is.drafted.in_stage) is.encoded)));
    }

-- the checkpoint after it, as contracts see it
abbrev pub moved_view : Begun → CheckpointStage → BegunView
moved_view b q = record {
  log = log_after (log_of b) (commands_owed b.owed.items) b.stage;
  owed = owed_after (commands_owed b.owed.items) b.stage;
  stage = q;
}

pub view-moved : (b new : Begun) (q : CheckpointStage) → log_of new ≡ log_after (log_of b) (commands_owed b.owed.items) b.stage
    → new.owed.items ≡ owed_after b.owed.items b.stage → new.stage ≡ q → view_of new ≡ moved_view b q
view-moved b new q log owed stage =
    let commands : commands_owed new.owed.items ≡ owed_after (commands_owed b.owed.items) b.stage =
    ap commands_owed owed ∙ commands-behind b.owed.items b.stage in
    λ i. record { log = log i; owed = commands i; stage = stage i }

-- after the last one the journal is in the other area
pub stands_there : (d : Disk) (s : Standing) (b : Begun) → IsBegun d s b
    → stage_after (target s (log_of b)) (commands_owed b.owed.items) b.stage ≡ None → (l : Layout) (a : Area) → l ≡ renewed s.layout
    → a ≡ other s.area
    → record { layout = l; area = a; epoch = s.epoch + 1; used = b.used; number = s.number; state = s.state }
    ≡ target s (log_of b)
stands_there d s b is none l a laid_out there =
    ends_as s (log_of b) l a laid_out there (means_same s (log_of b) (commands_owed b.owed.items) b.stage d d is.drafted none)

-- with no batch owed
pub ends_there : (d : Disk) (s : Standing) (b : Begun) → IsBegun d s b
    → stage_after (target s (log_of b)) (commands_owed b.owed.items) b.stage ≡ None
    → with_batches (target s (log_of b)) (commands_owed b.owed.items) ≡ target s (log_of b)
ends_there d s b is none = with_none (target s (log_of b)) (commands_owed b.owed.items)
    (no_batch s (log_of b) (commands_owed b.owed.items) b.stage d d is.drafted none)

-- a disk call does not change the standing at the end
pub ends-moved : (d : Disk) (s : Standing) (b : Begun) → IsBegun d s b
    → with_batches (target s (log_after (log_of b) (commands_owed b.owed.items) b.stage))
    (owed_after (commands_owed b.owed.items) b.stage)
    ≡ with_batches (target s (log_of b)) (commands_owed b.owed.items)
ends-moved d s b is =
    let t = target s (log_of b) in
    let owed = commands_owed b.owed.items in
    by_stage (λ l o. with_batches (target s l) o ≡ with_batches t owed) (log_of b) owed owed b.stage refl (λ at.
    (moved_one t owed (some_owed (renewed s.layout).slots _ _ _ b.stage at is.drafted.in_stage) is.drafted.owed_are).ends)

pub begun-behind : (s : Standing) (b new : Begun) (q : CheckpointStage)
    → stage_after (target s (log_of b)) (commands_owed b.owed.items) b.stage ≡ Some q
    → log_of new ≡ log_after (log_of b) (commands_owed b.owed.items) b.stage → new.owed.items ≡ owed_after b.owed.items b.stage
    → new.stage ≡ q → begun_after s (view_of b) ≡ Some (view_of new)
begun-behind s b new q next log owed stage = rw next (ap Some (sym (view-moved b new q log owed stage)))

-- ---- on another disk with the same number of sectors

pub begun_on : (d d' : Disk) (s : Standing) (b : Begun) → d'.sectors ≡ d.sectors → IsBegun d s b → IsBegun d' s b
begun_on d d' s b same is = record { drafted = drafted_on d d' s _ _ _ same is.drafted; plan = is.plan; encoded = is.encoded }

pub set_aside_on : (d d' : Disk) (s : Standing) (idle : Idle) (begun : Option Begun) → d'.sectors ≡ d.sectors → IsSetAside d s idle begun
    → IsSetAside d' s idle begun
set_aside_on d d' s idle None same is = tt
set_aside_on d d' s idle (Some b) same is = (begun_on d d' s b same is.0, is.1, is.2)

-- ---- paused

-- what is read of the area that it writes, while a batch is written
pub beside_of : (d : Disk) (s : Standing) (idle : Idle) (begun : Option Begun) → IsSetAside d s idle begun
    → IsPaused d s (option_map view_of begun) → IsBeside d s (option_map view_of begun)
beside_of d s idle None is paused = tt
beside_of d s idle (Some b) is paused = λ h.
    (holds_parts d.sectors s (target s (log_of b)) (commands_owed b.owed.items) b.stage d.content (pauses s b.stage is.1) (paused h)).1

-- ---- a checkpoint that may have allocated memory

pub still_begun : (d : Disk) (s : Standing) (old new : Begun) → IsSameBegun old new → IsBegun d s old → IsBegun d s new
still_begun d s old new same is =
    let log : log_of new ≡ log_of old =
    λ i. record { used = same.used i; number = (same.carried i).first; state = (same.carried i).start } in record {
      drafted =
          subst (λ (l : Log). IsDrafted d s (target s l) (commands_owed new.owed.items) new.stage) (sym log)
          (subst (λ (items : List OwedBatch). IsDrafted d s (target s (log_of old)) (commands_owed items) new.stage) (sym same.owed)
          (subst (IsDrafted d s (target s (log_of old)) (commands_owed old.owed.items)) (sym same.stage) is.drafted));
      plan = λ snapshot.
          subst (PlanOf s (log_of new)) (sym same.plan)
          (subst (λ (l : Log). PlanOf s l old.plan) (sym log) (is.plan (subst IsSnapshot same.stage snapshot)));
      encoded =
          subst (λ (l : Log). AreEncoded (target s l) new.owed.items) (sym log)
          (subst (AreEncoded (target s (log_of old))) (sym same.owed) is.encoded);
    }

pub still_set_aside : (d : Disk) (s : Standing) (idle : Idle) (old new : Option Begun) → AreSame old new → IsSetAside d s idle old
    → IsSetAside d s idle new
still_set_aside d s idle None None same is = tt
still_set_aside d s idle (Some old) (Some new) same is =
    (still_begun d s old new same is.0, ap (may_pause s) same.stage ∙ is.1, is.2 ∙ ap idle_at (sym same.stage))
still_set_aside d s idle None (Some new) same is = absurd same
still_set_aside d s idle (Some old) None same is = absurd same

-- contracts see no change of it
pub same-view : (old new : Option Begun) → AreSame old new → option_map view_of new ≡ option_map view_of old
same-view None None same = refl
same-view (Some old) (Some new) same = λ i. Some (record {
  log = record { used = same.used i; number = (same.carried i).first; state = (same.carried i).start };
  owed = commands_owed (same.owed i);
  stage = same.stage i;
})
same-view None (Some new) same = absurd same
same-view (Some old) None same = absurd same

-- ---- one more batch is owed

encoded-more : (t : Standing) (items : List OwedBatch) (o : OwedBatch) → AreEncoded t items
    → IsEncoded (with_batches t (commands_owed items)) o.batch.commands o.body → AreEncoded t (items ++ o ∷ [])
encoded-more t [] o encoded is = (is, tt)
encoded-more t (first ∷ behind) o encoded is =
    (encoded.0, encoded-more (with_batch t first.batch.commands) behind o encoded.1 is)

module _ (d d' : Disk) (s : Standing) (commands : List CommandValue) (old new : Begun) (body : EncodedBatch) (epoch : ℕ)
    (same : d'.sectors ≡ d.sectors) (is : IsBegun d s old) (may : may_pause s old.stage ≡ true) (follows : CanFollow s commands)
    (encoded : IsEncoded s commands body) (next_epoch : epoch ≡ s.epoch + 1) (owes : IsOwing old body epoch commands new) where
  abbrev t : Standing
  t = target s (log_of old)

  abbrev owed : List (List CommandValue)
  owed = commands_owed old.owed.items

  more : commands_owed new.owed.items ≡ owed ++ commands ∷ []
  more = ap commands_owed owes.owed ∙ map-append (λ (o : OwedBatch). o.batch.commands) old.owed.items (owes.batch ∷ [])
      ∙ ap (λ (cs : List CommandValue). owed ++ cs ∷ []) owes.commands_are

  -- its body, under the epoch of the other area
  encoded_there : IsEncoded (with_batches t owed) owes.batch.batch.commands owes.batch.body
  encoded_there =
      let end = with_batches t owed in
      let under : owes.batch.body.octets.items ≡ body_for end commands =
      owes.octets ∙ ap (λ (os : List ℕ). to_be_bytes w64 epoch ++ drop EPOCH_OCTETS os) encoded.octets
      ∙ body_octets-under s.epoch epoch (s.number + 1) commands
      ∙ ap (λ (e : ℕ). body_octets e (s.number + 1) commands) (next_epoch ∙ sym (batches-epoch t owed))
      ∙ ap (λ (n : ℕ). body_octets end.epoch (n + 1) commands) (sym is.drafted.same.0) in
      subst (λ (cs : List CommandValue). IsEncoded end cs owes.batch.body) (sym owes.commands_are) (record {
        octets = under;
        span = owes.span ∙ encoded.span;
        sectors = owes.sectors ∙ encoded.sectors ∙ sectors_for-same s end commands;
      })

  pub begun_owing : IsBegun d' (with_batch s commands) new
  begun_owing = record {
    drafted =
        subst (λ (l : Log). IsDrafted d' (with_batch s commands) (target (with_batch s commands) l)
        (commands_owed new.owed.items) new.stage)
        (sym owes.log)
        (subst (λ (o : List (List CommandValue)). IsDrafted d' (with_batch s commands) t o new.stage) (sym more)
        (subst (IsDrafted d' (with_batch s commands) t (owed ++ commands ∷ [])) (sym owes.stage)
        (drafted_owing d d' s (log_of old) owed old.stage commands same is.drafted follows (pauses s old.stage may))));
    plan = λ snapshot.
        subst (PlanOf s (log_of new)) (sym owes.plan)
        (subst (λ (l : Log). PlanOf s l old.plan) (sym owes.log) (is.plan (snapshot_owing old.stage
        (subst IsSnapshot owes.stage snapshot))));
    encoded =
        subst (λ (l : Log). AreEncoded (target s l) new.owed.items) (sym owes.log)
        (subst (AreEncoded t) (sym owes.owed) (encoded-more t old.owed.items owes.batch is.encoded encoded_there));
  }

  pub view-owing : view_of new ≡ with_owed commands (view_of old)
  view-owing = λ i. record { log = owes.log i; owed = more i; stage = owes.stage i }

may_owing : (stage : CheckpointStage) → can_pause stage ≡ true → (can_pause (owing stage) ≡ true) × (idle_at (owing stage) ≡ idle_at stage)
may_owing ClearHeader may = (refl, refl)
may_owing SyncHeader may = (refl, refl)
may_owing CloseGate may = (refl, refl)
may_owing SyncClosed may = (refl, refl)
may_owing (CloseSlot k) may = (refl, refl)
may_owing SyncSlots may = (refl, refl)
may_owing WriteHeader may = (refl, refl)
may_owing (WriteRecord i) may = (refl, refl)
may_owing SyncRecords may = (refl, refl)
may_owing (Carry p) may = (refl, refl)
may_owing OpenGate may = (refl, refl)
may_owing SyncOpen may = absurd cc

pub set_aside_owing : (d d' : Disk) (s : Standing) (idle : Idle) (commands : List CommandValue) (old new : Option Begun)
    (body : EncodedBatch) (epoch : ℕ) → d'.sectors ≡ d.sectors → IsSetAside d s idle old → CanFollow s commands
    → IsEncoded s commands body → epoch ≡ s.epoch + 1 → AreOwing old body epoch commands new
    → IsSetAside d' (with_batch s commands) idle new
set_aside_owing d d' s idle commands None None body epoch same is follows encoded next owes = tt
set_aside_owing d d' s idle commands (Some old) (Some new) body epoch same is follows encoded next owes =
    let may = may_owing old.stage (pauses s old.stage is.1) in (
      begun_owing d d' s commands old new body epoch same is.0 is.1 follows encoded next owes,
      ap (may_pause s) owes.stage ∙ pauses_at s old.stage (owing old.stage) is.1 may.0,
      is.2 ∙ sym may.1 ∙ ap idle_at (sym owes.stage),
    )
set_aside_owing d d' s idle commands None (Some new) body epoch same is follows encoded next owes = absurd owes
set_aside_owing d d' s idle commands (Some old) None body epoch same is follows encoded next owes = absurd owes

pub views-owing : (d d' : Disk) (s : Standing) (idle : Idle) (commands : List CommandValue) (old new : Option Begun)
    (body : EncodedBatch) (epoch : ℕ) → d'.sectors ≡ d.sectors → IsSetAside d s idle old → CanFollow s commands
    → IsEncoded s commands body → epoch ≡ s.epoch + 1 → AreOwing old body epoch commands new
    → option_map view_of new ≡ option_map (with_owed commands) (option_map view_of old)
views-owing d d' s idle commands None None body epoch same is follows encoded next owes = refl
views-owing d d' s idle commands (Some old) (Some new) body epoch same is follows encoded next owes =
    ap Some (view-owing d d' s commands old new body epoch same is.0 is.1 follows encoded next owes)
views-owing d d' s idle commands None (Some new) body epoch same is follows encoded next owes = absurd owes
views-owing d d' s idle commands (Some old) None body epoch same is follows encoded next owes = absurd owes
