-- A paused checkpoint, while a batch is written and after that batch.
use Rattle.std.proofs.Common.{◌≡◌, ℕ, ◌+◌, List, [], ◌∷◌, length, IsTrue, Option, Some, None, sym, subst}
use Rattle.std.specs.Option.{option_map}
use Rattle.iol_types.specs.Command.{CommandValue}
use Rattle.iol_disk.specs.Calls.{content_after, Made}
use Rattle.iol_disk.specs.Content.{Content, EachImage}
use Rattle.iol_disk.specs.Disk.{Disk}
use Rattle.iol_layout.specs.Kept.{IsKeptAs}
use Rattle.iol_journal.specs.Batches.{sectors_for, call_of, IsPhase}
use Rattle.iol_journal.specs.BegunParts.{log_of, commands_owed, view_of, IsSetAside, AreOwing}
use Rattle.iol_journal.specs.Checkpoints.{target, first_of, snapshot_writes}
use Rattle.iol_journal.specs.Pauses.{IsDrawnUp, IsPaused, IsBeside}
use Rattle.iol_journal.specs.Drafts.{AreaHolds}
use Rattle.iol_layout.specs.Standings.{with_batch}
use Rattle.iol_journal.specs.Planned.{CanFollow, IsEncoded}
use Rattle.iol_layout.specs.Meaning.{Standing}
use Rattle.iol_journal.specs.Phases.{IsAtRest}
use Rattle.iol_journal.specs.declared.begun.Begun.{Begun}
use Rattle.iol_layout.specs.declared.body.EncodedBatch.{EncodedBatch}
use Rattle.iol_journal.specs.declared.phase.Phase.{Phase}
use Rattle.iol_layout.specs.declared.idle.Idle.{Idle}
use Rattle.iol_journal.proofs.BegunLaws.{view-owing}
use Rattle.iol_journal.proofs.Beside.{call_leaves, area_beside}
use Rattle.iol_journal.proofs.DraftLaws.{pauses, holds_owing}
use Rattle.iol_layout.proofs.Layouts.{size-renewed}
use Rattle.iol_journal.proofs.Phases.{IsFit}

-- a call of the batch does not change what is read of the area that the checkpoint writes
pub beside_after : (d d' : Disk) (s : Standing) (batch : List CommandValue) (body : List ℕ) (sectors : ℕ) (p : Phase) (idle : Idle)
    (begun : Option Begun) → IsFit s batch body sectors → IsPhase sectors p → Made (call_of s body p ∷ []) d d'
    → IsSetAside d s idle begun → IsBeside d s (option_map view_of begun) → IsBeside d' s (option_map view_of begun)
beside_after d d' s batch body sectors p idle None fit in_phase made is beside = tt
beside_after d d' s batch body sectors p idle (Some b) fit in_phase made is beside = λ h'.
    let t = target s (log_of b) in
    let owed = commands_owed b.owed.items in
    let h : IsTrue d.honest = subst IsTrue made.after.honest h' in
    let left = call_leaves s batch body sectors p d.content fit in_phase in
    subst (λ (n : ℕ). AreaHolds n t owed b.stage d'.content) (sym made.after.sectors)
    (subst (λ (c : Content). AreaHolds d.sectors t owed b.stage c) (sym (made.after.content h))
    (area_beside d.sectors s (log_of b) d.content (content_after (call_of s body p) d.content) left
    (size-renewed s.layout is.0.drafted.laid_out) d owed b.stage is.0.drafted (beside h)))

-- after the batch is written, it is owed to the checkpoint
pub paused_after : (d d' : Disk) (s : Standing) (batch : List CommandValue) (idle : Idle) (old new : Option Begun) (body : EncodedBatch)
    (epoch : ℕ) → d'.sectors ≡ d.sectors → IsSetAside d s idle old → CanFollow s batch → IsEncoded s batch body → epoch ≡ s.epoch + 1
    → AreOwing old body epoch batch new → IsBeside d' s (option_map view_of old) → IsAtRest d' (with_batch s batch) idle
    → IsPaused d' (with_batch s batch) (option_map view_of new)
paused_after d d' s batch idle None None body epoch same is follows encoded next owes beside rests = tt
paused_after d d' s batch idle (Some old) (Some new) body epoch same is follows encoded next owes beside rests =
    let t = target s (log_of old) in
    let owed = commands_owed old.owed.items in
    subst (IsDrawnUp d' (with_batch s batch))
    (sym (view-owing d d' s batch old new body epoch same is.0 is.1 follows encoded next owes))
    (λ h. holds_owing d'.sectors (with_batch s batch) t owed batch t.layout.slots (length (snapshot_writes t))
    (sectors_for t (first_of owed)) old.stage d'.content (pauses s old.stage is.1) is.0.drafted.in_stage
    (subst (λ (i : Idle). EachImage d'.content (IsKeptAs d'.sectors (with_batch s batch) i)) is.2 (rests h)) (beside h))
paused_after d d' s batch idle None (Some new) body epoch same is follows encoded next owes beside rests = absurd owes
paused_after d d' s batch idle (Some old) None body epoch same is follows encoded next owes beside rests = absurd owes
