-- Facts of a journal's standing, stated for the journal as contracts see it.
use Rattle.std.proofs.Common.{◌≡◌, ℕ, ◌+◌, List, [], ◌∷◌, Result, Ok, Err, IfOk, OnOk, subst, arith}
use Rattle.iol_types.specs.Command.{CommandValue}
use Rattle.iol_disk.specs.Calls.{Makes}
use Rattle.iol_disk.specs.Disk.{Disk}
use Rattle.iol_disk.specs.Moments.{LeavesOnly}
use Rattle.iol_disk.specs.declared.fault.DiskFault.{DiskFault}
use Rattle.iol_journal.specs.Checkpoints.{target}
use Rattle.iol_journal.specs.Checkpoints.{call_at}
use Rattle.iol_journal.specs.Drafts.{IsDrafted}
use Rattle.iol_journal.specs.CheckpointViews.{CheckpointingView, IsCheckpointUnderway}
use Rattle.iol_layout.specs.Kept.{KeptMeans}
use Rattle.iol_layout.specs.Meaning.{Standing}
use Rattle.iol_layout.specs.Standings.{IsResting}
use Rattle.iol_journal.specs.Planned.{CanFollow, IsPlan, IsPlanned}
use Rattle.iol_journal.specs.declared.phase.Phase.TheVariants.{Body}
use Rattle.iol_journal.specs.declared.plan.Plan.{Plan}
use Rattle.iol_journal.proofs.BatchCalls.{sectors_for-some}
use Rattle.iol_journal.proofs.CheckpointSteps.{moment}

-- the same of the checkpoint as contracts see it
pub moment_of : {D : Type 0} (disk : D → Disk) {c v : CheckpointingView D} (left : D) (result : Result Unit DiskFault) → c ≡ v
    → IsDrafted (disk c.disk) c.standing (target c.standing c.begun.log) c.begun.owed c.begun.stage
    → Makes (call_at (target c.standing c.begun.log) c.begun.owed c.begun.stage ∷ []) (disk c.disk) (disk left) result
    → IsCheckpointUnderway disk v
    → LeavesOnly (disk v.disk) (disk left) (KeptMeans (disk v.disk).sectors v.standing.number v.standing.state)
moment_of {D = D} disk {c = c} left result view drafted makes =
    subst (λ (u : CheckpointingView D). IsCheckpointUnderway disk u
    → LeavesOnly (disk u.disk) (disk left) (KeptMeans (disk u.disk).sectors u.standing.number u.standing.state)) view
    (moment c.standing c.begun.log c.begun.owed c.begun.stage (disk c.disk) (disk left) drafted result makes)

-- a batch that was planned for a journal at rest
pub planned_in : {E : Type 0} (d : Disk) (s : Standing) (commands : List CommandValue) (first : ℕ) (result : Result Plan E)
    → IsResting d s → IfOk result (IsPlan s commands) → OnOk result (CanFollow s commands) → OnOk result (first ≡ s.number + 1)
    → IfOk result (λ plan. IsPlanned d s commands (Body 0) × IsPlan s commands plan × (first ≡ s.number + 1))
planned_in d s commands first (Ok plan) rests is follows next = (
  record {
    laid_out = rests.laid_out;
    fits = rests.fits;
    follows = follows;
    in_phase = omega (arith, sectors_for-some s commands);
    begun = rests.begun;
    count = rests.count;
  },
  is,
  next,
)
planned_in d s commands first (Err cause) rests is follows next = tt
