-- The laws of journals, for proofs of other crates.
use Rattle.std.proofs.Common.{◌≡◌, ◌<◌, ◌⊎◌, ◌-◌, nat_lt, Bool, true, false, if◌then◌else◌, IsTrue, ℕ, List, Some, None, inl, inr}
use Rattle.std.proofs.Common.{refl, sym, ◌∙◌, ap, arith}
use Rattle.std.proofs.lemmas.Bool.Decides.{nat_tests}
use Rattle.iol_types.specs.Command.{CommandValue}
use Rattle.iol_disk.specs.Content.{Image, Content, IsImage}
use Rattle.iol_disk.specs.Disk.{Disk}
use Rattle.iol_journal.specs.Batches.{body_for, sectors_for}
use Rattle.iol_journal.specs.Begin.{follows, is_too_large, fits_no_area, wants_checkpoint, batch_refusal}
use Rattle.iol_layout.specs.Layout.{Layout, is_renewed}
use Rattle.iol_layout.proofs.Layouts.{renewed-same}
use Rattle.iol_layout.specs.Body.{slots_for}
use Rattle.iol_journal.specs.Checkpoints.{target}
use Rattle.iol_journal.specs.CheckpointViews.{CheckpointingView, IsCheckpointUnderway}
use Rattle.iol_journal.specs.Journals.{WritingView}
use Rattle.iol_layout.specs.Kept.{KeptEither, EachMeans}
use Rattle.iol_layout.specs.Meaning.{Standing}
use Rattle.iol_journal.specs.Phases.{IsAtRest, Holds}
use Rattle.iol_journal.specs.Underway.{IsUnderway}
use Rattle.iol_journal.specs.declared.refusal.BeginCause.TheVariants.{NeedsCheckpoint}
use Rattle.iol_layout.specs.declared.idle.Idle.{Idle}
use Rattle.iol_journal.specs.declared.phase.Phase.{Phase}
use Rattle.iol_journal.specs.declared.phase.Phase.TheVariants.{Body, SyncBody, Gate, SyncGate}
use Rattle.iol_layout.proofs.Chains.{by_test}
use Rattle.iol_layout.proofs.Frames.{kept_means}
use Rattle.iol_journal.proofs.Phases.{between_means_either}
use Rattle.iol_journal.proofs.StageMeanings.{stage_means}

-- before the call of each phase
holds_means_either : (size : ℕ) (s : Standing) (idle : Idle) (commands : List CommandValue) (body : List ℕ) (sectors : ℕ) (p : Phase)
    (c : Content)
    → Holds size s idle commands body sectors p c → (image : Image) → IsImage c image → KeptEither size s.number s.state commands image
holds_means_either size s idle commands body sectors (Body j) c holds image is = inl (kept_means size s idle image (holds.0 image is))
holds_means_either size s idle commands body sectors SyncBody c holds image is = inl (kept_means size s idle image (holds.0 image is))
holds_means_either size s idle commands body sectors Gate c holds image is = inl (kept_means size s idle image (holds.0 image is))
holds_means_either size s idle commands body sectors SyncGate c holds image is =
    between_means_either size s idle commands image (holds.0 image is)

-- while a batch is being written each image means the state before it or after it
pub underway_means_either : {D : Type 0} (disk : D → Disk) (w : WritingView D) → IsUnderway disk w → IsTrue (disk w.disk).honest
    → (image : Image) → IsImage (disk w.disk).content image
    → KeptEither (disk w.disk).sectors w.standing.number w.standing.state w.commands image
underway_means_either disk w under h =
    holds_means_either (disk w.disk).sectors w.standing w.idle w.commands (body_for w.standing w.commands)
    (sectors_for w.standing w.commands) w.phase (disk w.disk).content (under h)

-- while a checkpoint is being written each image means the number and the state
pub checkpoint_means_its_state : {D : Type 0} (disk : D → Disk) (c : CheckpointingView D) → IsCheckpointUnderway disk c
    → EachMeans (disk c.disk) c.standing.number c.standing.state
checkpoint_means_its_state disk c under h image is =
    stage_means (disk c.disk).sectors c.standing (target c.standing c.begun.log) c.begun.owed c.begun.stage (disk c.disk).content (under h)
    image is

-- a journal at rest means its number and state
pub rest_means_its_state : (d : Disk) (s : Standing) (idle : Idle) → IsAtRest d s idle → EachMeans d s.number s.state
rest_means_its_state d s idle rests h image is = kept_means d.sectors s idle image (rests h image is)

-- a batch that follows the journal and fits an area is refused only if too few slots are free
pub following_batch_wants_a_slot : (s : Standing) (first : ℕ) (commands : List CommandValue) → fits_no_area s commands ≡ false
    → follows s first commands ≡ true
    → (batch_refusal s first commands ≡ None)
    ⊎ ((batch_refusal s first commands ≡ Some NeedsCheckpoint) × (wants_checkpoint s commands ≡ true)
    × (is_renewed s.layout ≡ true → 0 < s.used))
following_batch_wants_a_slot s first commands fits goes_on =
    by_test (wants_checkpoint s commands) _
    (λ full. inr (rw (fits, full) refl, full, λ newest. used newest full))
    (λ free. inl (rw (fits, free, goes_on) refl))
  where
    used : is_renewed s.layout ≡ true → wants_checkpoint s commands ≡ true → 0 < s.used
    used newest full =
        let small : is_too_large s.layout.slots commands ≡ false =
        ap (λ (l : Layout). is_too_large l.slots commands) (sym (renewed-same s.layout newest)) ∙ fits in
        let wants : nat_lt (s.layout.slots - s.used) (slots_for commands) ≡ true =
        ap (λ (test : Bool). nat_lt (if test then s.layout.slots - s.used else 0) (slots_for commands)) (sym newest) ∙ full in
        grind (arith, nat_tests, small, wants)
