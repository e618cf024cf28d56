-- The disk calls of a checkpoint, one after another, on an honest disk.
use Rattle.std.proofs.Common.{◌≡◌, ◌≤◌, ◌<◌, ℕ, ◌+◌, ◌-◌, nat_lt, if◌then◌else◌, Bool, List, []}
use Rattle.std.proofs.Common.{◌∷◌, length, Option, Some, None, refl, sym, ◌∙◌, ap, subst, arith}
use Rattle.std.proofs.lemmas.Bool.Decides.{nat_tests}
use Rattle.iol_types.specs.Command.{CommandValue}
use Rattle.iol_types.specs.State.{State}
use Rattle.iol_disk.specs.Content.{Content, IsSettled, reads, wrote, synced, EachImage}
use Rattle.iol_disk.specs.Calls.{content_after}
use Rattle.iol_disk.proofs.DiskLaws.{reads-is_image, image-synced, reads-wrote_here, reads-wrote_other}
use Rattle.iol_disk.specs.Gate.{is_open, open_gate, closed_gate}
use Rattle.iol_disk.proofs.SlotLaws.{is_open-open_gate, is_open-closed_gate}
use Rattle.iol_layout.specs.Header.{header_of, header_octets, epochs_ahead}
use Rattle.iol_layout.specs.Kept.{IsKeptAs}
use Rattle.iol_layout.specs.Layout.{other, renewed, area_sectors, gate_at, header_at, slot_at, body_at}
use Rattle.iol_layout.specs.Meaning.{Log, Standing}
use Rattle.iol_layout.specs.Octets.{sector_of}
use Rattle.iol_journal.specs.Batches.{body_for, sectors_for}
use Rattle.iol_journal.specs.Checkpoints.{target, first_of, all_but_first, with_batches, snapshot_writes, call_at}
use Rattle.iol_layout.specs.Body.{records_of, slots_for}
use Rattle.iol_journal.specs.Checkpoints.{next_batch, next_stage, log_after, owed_after, first_stage, IsStage}
use Rattle.iol_journal.specs.Drafts.{AreShut, IsPrepared, OpensTo, MeansSame, StageHolds, IsSnapshot, IsFresh, AreOwed}
use Rattle.iol_layout.specs.Standings.{with_batch}
use Rattle.iol_journal.specs.Planned.{CanFollow}
use Rattle.iol_journal.specs.Phases.{HasWritten}
use Rattle.iol_layout.specs.declared.header.Header.{Header}
use Rattle.iol_layout.specs.declared.header.TheConstants.{LAST_NUMBER}
use Rattle.iol_layout.specs.declared.idle.Idle.{Idle}
use Rattle.iol_layout.specs.declared.idle.Idle.TheVariants.{Older, Closed}
use Rattle.iol_journal.specs.declared.phase.Phase.TheVariants.{Body, SyncBody, Gate, SyncGate}
use Rattle.iol_journal.specs.declared.stage.CheckpointStage.{CheckpointStage}
use Rattle.iol_journal.specs.declared.stage.CheckpointStage.TheVariants.{ClearHeader, SyncHeader, CloseGate, SyncClosed}
use Rattle.iol_journal.specs.declared.stage.CheckpointStage.TheVariants.{CloseSlot, SyncSlots}
use Rattle.iol_journal.specs.declared.stage.CheckpointStage.TheVariants.{WriteHeader, WriteRecord, SyncRecords, Carry, OpenGate, SyncOpen}
use Rattle.iol_journal.proofs.Carrying.{carry_sector, carry_gate}
use Rattle.iol_journal.proofs.Phases.{IsFit, fit_for}
use Rattle.iol_layout.proofs.Spans.{slots_of-some, body_at-within}
use Rattle.iol_layout.proofs.AreasInUse.{in_use_header}
use Rattle.iol_layout.proofs.Chains.{by_test}
use Rattle.iol_layout.proofs.Readings.{IsRead, stands_read}
use Rattle.iol_layout.proofs.Headers.{header_of-octets, sound-bounds}
use Rattle.iol_journal.proofs.DraftWrites.{each_write, each_sync, sync_again, there, shut_more, prepared_none}
use Rattle.iol_journal.proofs.DraftWrites.{record_written, opens, turning}

-- what holds after the call of a stage: what the next stage requires, or at the end that the checkpoint is
-- whole
abbrev pub HoldsAfter : ℕ → Standing → Standing → List (List CommandValue) → Option CheckpointStage → Content → Type 0
HoldsAfter size s t owed (Some stage) c = StageHolds size s t owed stage c
HoldsAfter size s t owed None c = EachImage c (IsKeptAs size t Older) × MeansSame t s

-- the next of two possible stages
abbrev one_of : Bool → CheckpointStage → CheckpointStage → Option CheckpointStage
one_of more p q = Some (if more then p else q)

holds_one_of : (size : ℕ) (s t : Standing) (owed : List (List CommandValue)) (n m : ℕ) (p q : CheckpointStage) (c : Content)
    → (n < m → StageHolds size s t owed p c) → (m ≤ n → StageHolds size s t owed q c)
    → HoldsAfter size s t owed (one_of (nat_lt n m) p q) c
holds_one_of size s t owed n m p q c more last = by_test (nat_lt n m) _
    (λ less. rw less (more (grind (arith, nat_tests))))
    (λ no_less. rw no_less (last (grind (arith, nat_tests))))

-- ---- carried batches

-- the first of them can be written
pub first_owed : (t : Standing) (owed : List (List CommandValue)) → 1 ≤ length owed → AreOwed t owed → CanFollow t (first_of owed)
first_owed t [] some are = absurd (omega (arith, some))
first_owed t (batch ∷ batches) some are = are.0

-- after the records or a batch: the next batch, or the gate
carry_next : (size : ℕ) (s t : Standing) (owed : List (List CommandValue)) (n : ℕ) (c : Content) → EachImage c (IsKeptAs size s Closed)
    → OpensTo size t c → IsSettled c → HoldsAfter size s t owed (Some (next_batch n)) c
carry_next size s t owed n c kept opens_to settled = holds_one_of size s t owed 0 n (Carry (Body 0)) OpenGate c
    (λ more. (kept, (opens_to, λ j below. absurd (omega (arith, below)))))
    (λ none. (kept, opens_to, settled))

-- with no batch left to be carried both areas mean the same
pub none_owed : (s t : Standing) (owed : List (List CommandValue)) → length owed ≡ 0 → MeansSame (with_batches t owed) s → MeansSame t s
none_owed s t [] none same = same
none_owed s t (batch ∷ batches) none same = absurd (omega (arith, none))

-- ---- the call of each stage

module _ (size : ℕ) (s : Standing) (log : Log) (owed : List (List CommandValue))
    (alike : area_sectors (renewed s.layout) ≡ area_sectors s.layout)
    (near : s.epoch + 1 ≤ log.number + epochs_ahead (renewed s.layout).version) (bound : log.number ≤ LAST_NUMBER) (owed_are : AreOwed
    (target s log) owed)
    (same : MeansSame (with_batches (target s log) owed) s) where
  abbrev t' : Standing
  t' = target s log

  abbrev records : ℕ
  records = length (snapshot_writes t')

  abbrev sectors : ℕ
  sectors = sectors_for t' (first_of owed)

  fit : 1 ≤ length owed → IsFit t' (first_of owed) (body_for t' (first_of owed)) sectors
  fit more = fit_for t' (first_of owed) (first_owed t' owed more owed_are) near

  at : gate_at t'.layout t'.area ≡ gate_at s.layout (other s.area)
  at = there size s log alike

  pub goes_on : (stage : CheckpointStage) (c : Content) → (IsSnapshot stage → IsFresh t')
      → IsStage t'.layout.slots records sectors (length owed) stage
      → StageHolds size s t' owed stage c
      → HoldsAfter size s (target s (log_after log owed stage)) (owed_after owed stage)
      (next_stage t'.layout.slots records sectors (length owed) stage) (content_after (call_at t' owed stage) c)
  goes_on ClearHeader c fresh in_stage holds = (
    each_write size s Closed (header_at t'.layout t'.area) (header_octets t'.layout.version 0 0) c
        (record { from = omega (arith, at); below = omega (arith, at) }) (omega (arith, at)) holds.0,
    ap (λ (octets : List ℕ). (header_of octets).epoch) (reads-wrote_here (header_at t'.layout t'.area)
        (header_octets t'.layout.version 0 0) c)
        ∙ ap (λ (header : Header). header.epoch) (header_of-octets t'.layout.version 0 0 (omega arith) (omega arith)),
  )
  goes_on SyncHeader c fresh in_stage holds =
      let kept = holds.0 (reads c) (reads-is_image c) in
      let older : (header_of (reads c (header_at s.layout (other s.area)))).epoch ≡ 0 =
      ap (λ (gate : ℕ). (header_of (reads c (gate + 1))).epoch) (sym at) ∙ holds.1 in
      (each_sync size s Closed Older c holds.0 (omega (arith, older, begun kept)), tt)
    where
      begun : IsKeptAs size s Closed (reads c) → 1 ≤ s.epoch
      begun kept = put (stands_read size (reads c) s kept.stands)
        where
          put : (base : ℕ) × (ports : State) × IsRead size (reads c) s base ports → 1 ≤ s.epoch
          put (base, ports, is) = (sound-bounds s.layout.version s.epoch base
              (in_use_header s.layout (reads c) s.area _ is.in_use).1).first
  goes_on CloseGate c fresh in_stage holds = (
    each_write size s Older (gate_at t'.layout t'.area) closed_gate c
        (record { from = omega (arith, at); below = omega (arith, at) }) (omega (arith, at)) holds.0,
    ap is_open (reads-wrote_here (gate_at t'.layout t'.area) closed_gate c) ∙ is_open-closed_gate,
  )
  goes_on SyncClosed c fresh in_stage holds = (
    each_sync size s Older Closed c holds.0 (ap (λ (gate : ℕ). is_open (reads c gate)) (sym at) ∙ holds.1),
    λ j below. absurd (omega (arith, below)),
  )
  goes_on (CloseSlot k) c fresh in_stage holds =
      let kept = each_write size s Closed (slot_at t'.layout t'.area k) closed_gate c
      (record { from = omega (arith, at); below = omega (arith, in_stage, at, alike) }) (omega (arith, at)) holds.0 in
      let shut = shut_more size s log alike k c holds.1 in
      holds_one_of size s t' owed (k + 1) t'.layout.slots (CloseSlot (k + 1)) SyncSlots _ (λ more. (kept, shut))
      (λ last.
      let all : k + 1 ≡ t'.layout.slots = omega (arith, last, in_stage) in
      (kept, subst (λ (n : ℕ). AreShut t' n (reads (wrote (slot_at t'.layout t'.area k) closed_gate c))) all shut))
  goes_on SyncSlots c fresh in_stage holds = (sync_again size s Closed c holds.0, holds.1)
  goes_on WriteHeader c fresh in_stage holds =
      let kept = each_write size s Closed (header_at t'.layout t'.area) (header_octets t'.layout.version t'.epoch t'.number) c
      (record { from = omega (arith, at); below = omega (arith, at) }) (omega (arith, at)) holds.0 in
      let ready = prepared_none size s log alike c near bound holds.1 in
      holds_one_of size s t' owed 0 records (WriteRecord 0) SyncRecords _ (λ more. (kept, ready))
      (λ last.
      let none : 0 ≡ records = omega (arith, last) in (
        kept,
        subst (λ (n : ℕ). IsPrepared t' n (reads (wrote (header_at t'.layout t'.area)
            (header_octets t'.layout.version t'.epoch t'.number) c))) none
            ready,
      ))
  goes_on (WriteRecord i) c fresh in_stage holds =
      let both = record_written size s log alike owed i c (fresh tt).records in_stage holds.0 holds.1 in
      holds_one_of size s t' owed (i + 1) records (WriteRecord (i + 1)) SyncRecords _ (λ more. both)
      (λ last.
      let all : i + 1 ≡ records = omega (arith, last, in_stage) in
      (both.0, subst (λ (n : ℕ). IsPrepared t' n (reads (content_after (call_at t' owed (WriteRecord i)) c))) all both.1))
  goes_on SyncRecords c fresh in_stage holds =
      carry_next size s t' owed (length owed) (synced c) (sync_again size s Closed c holds.0)
      (opens size s log alike c near bound (fresh tt) (holds.0 (reads c) (reads-is_image c)) holds.1) (λ i. refl)
  goes_on (Carry (Body j)) c fresh in_stage holds =
      let is = fit in_stage.0 in
      let within = body_at-within t'.layout t'.area t'.used (slots_for (first_of owed)) j (omega (arith, in_stage.1, is.short)) in
      let kept = each_write size s Closed (body_at t'.layout t'.area t'.used j) (sector_of (body_for t' (first_of owed)) j) c
      (record { from = omega (arith, at); below = omega (arith, within, is.room, at, alike) }) (omega (arith, at)) holds.0 in
      let more = carry_sector size t' (first_of owed) is j c in_stage.1 holds.1 in
      by_test (nat_lt (j + 1) sectors) _
      (λ less. rw less (kept, more))
      (λ last.
      let all : j + 1 ≡ sectors = grind (arith, nat_tests, in_stage.1) in
      rw last (
        kept,
        (
          more.0,
          subst (λ (n : ℕ). HasWritten t' (body_for t' (first_of owed)) n
              (wrote (body_at t'.layout t'.area t'.used j) (sector_of (body_for t' (first_of owed)) j) c)) all more.1,
        ),
      ))
  goes_on (Carry SyncBody) c fresh in_stage holds = (sync_again size s Closed c holds.0, holds.1)
  goes_on (Carry Gate) c fresh in_stage holds =
      let is = fit in_stage.0 in
      let some_slot = slots_of-some (length (records_of (first_of owed))) in (
        each_write size s Closed (slot_at t'.layout t'.area t'.used) open_gate c
            (record { from = omega (arith, at); below = omega (arith, is.room, some_slot, at, alike) }) (omega (arith, at)) holds.0,
        carry_gate size t' (first_of owed) is c holds.1.0 holds.1.1,
      )
  goes_on (Carry SyncGate) c fresh in_stage holds =
      carry_next size s (with_batch t' (first_of owed)) (all_but_first owed) (length owed - 1) (synced c)
      (sync_again size s Closed c holds.0) holds.1 (λ i. refl)
  goes_on OpenGate c fresh in_stage holds = (
    turning size s log alike c holds.0 holds.2 holds.1,
    holds.1 (reads (wrote (gate_at t'.layout t'.area) open_gate c)) (λ i away.
        reads-wrote_other (gate_at t'.layout t'.area) open_gate c i away)
        (ap is_open (reads-wrote_here (gate_at t'.layout t'.area) open_gate c) ∙ is_open-open_gate),
    none_owed s t' owed in_stage same,
  )
  goes_on SyncOpen c fresh in_stage holds =
      (λ image is. subst (IsKeptAs size t' Older) (sym (image-synced c image is)) holds.1, holds.2)

-- a checkpoint begins while the journal is at rest
pub first_holds : (size : ℕ) (s t : Standing) (owed : List (List CommandValue)) (idle : Idle) (c : Content)
    → EachImage c (IsKeptAs size s idle)
    → StageHolds size s t owed (first_stage idle) c
first_holds size s t owed Older c kept = (kept, tt)
first_holds size s t owed Closed c kept = (kept, tt)
