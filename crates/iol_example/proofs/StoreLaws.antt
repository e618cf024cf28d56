-- What the public clauses of the journal and of the disk imply together.
use Rattle.std.proofs.Common.{◌≡◌, inl, ℕ, ◌+◌, List, [], ◌∷◌, ◌++◌, length, true, None}
use Rattle.std.proofs.Common.{Result, Ok, Err, IfOk, refl, sym, ◌∙◌, ap, subst, arith}
use Rattle.iol_types.specs.Command.{CommandValue}
use Rattle.iol_types.specs.State.{State, after, legal}
use Rattle.iol_disk.specs.Content.{Image}
use Rattle.iol_disk.specs.Disk.{Disk}
use Rattle.iol_disk.specs.Moments.{LeavesOnly}
use Rattle.iol_disk.proofs.DiskLaws.{started, and_then, weaker}
use Rattle.iol_journal.specs.Journals.{JournalView, WritingView}
use Rattle.iol_journal.specs.Standings.{with_batch}
use Rattle.iol_journal.specs.Kept.{KeptMeans, KeptEither}
use Rattle.iol_journal.specs.Meaning.{Standing}
use Rattle.iol_journal.specs.Runs.{Mark, Run, HasPrefix, IsMarked, IsRun, with_batch_begun}
use Rattle.iol_journal.specs.Phases.{IsAtRest}
use Rattle.iol_journal.specs.declared.refusal.BeginCause.{BeginCause}
use Rattle.iol_journal.specs.declared.refusal.BeginCause.TheVariants.{Memory}
use Rattle.iol_journal.specs.Idle.{Idle}
use Rattle.iol_journal.proofs.JournalLaws.{rest_means_its_state}
use Rattle.iol_example.specs.Store.{Rests, RestsAt, IfRefused, LeavesRun}
use Rattle.iol_example.specs.declared.store.WriteFault.{WriteFault}
use Rattle.iol_example.specs.declared.store.WriteFault.TheVariants.{Refused, Failed}

-- a store at rest has the number and the state of its journal
pub rests_at : {D : Type 0} (disk : D → Disk) (number : ℕ) (state : State) (j : JournalView D) → Rests disk j
    → j.standing.number ≡ number → j.standing.state ≡ state → RestsAt disk number state j
rests_at disk number state j rests same_number same_state = record {
  rests = rests;
  stands = λ h. (same_number, same_state);
  means = rw (← same_number, ← same_state) (rest_means_its_state (disk j.disk) j.standing j.idle rests.0);
}

-- a journal at rest without a paused checkpoint
pub none_paused : {D : Type 0} (disk : D → Disk) (j : JournalView D) → IsAtRest (disk j.disk) j.standing j.idle
    → j.begun ≡ None → Rests disk j
none_paused disk j rests none = (rests, rw none tt)

-- a journal at rest, before its first call
pub from_rest : (old new : Disk) (s : Standing) (idle : Idle) → new ≡ old → IsAtRest old s idle
    → LeavesOnly old new (KeptMeans old.sectors s.number s.state)
from_rest old new s idle same rests =
    subst (λ (d : Disk). LeavesOnly old d (KeptMeans old.sectors s.number s.state)) (sym same)
    (started old (KeptMeans old.sectors s.number s.state) (rest_means_its_state old s idle rests))

-- calls after others, if what they leave depends only on the sectors of the disk
then_more : (start old new : Disk) (P : ℕ → Image → Type 0) → LeavesOnly start old (P start.sectors) → LeavesOnly old new (P old.sectors)
    → LeavesOnly start new (P start.sectors)
then_more start old new P first second =
    and_then start old new (P start.sectors) first (subst (λ (n : ℕ). LeavesOnly old new (P n)) first.sectors second)

-- a further call of a checkpoint
pub checkpoint_goes_on : (start old new : Disk) (s t : Standing) → t ≡ s → LeavesOnly start old (KeptMeans start.sectors s.number s.state)
    → LeavesOnly old new (KeptMeans old.sectors t.number t.state) → LeavesOnly start new (KeptMeans start.sectors s.number s.state)
checkpoint_goes_on start old new s t same so_far more =
    then_more start old new (λ n. KeptMeans n s.number s.state) so_far
    (subst (λ (u : Standing). LeavesOnly old new (KeptMeans old.sectors u.number u.state)) same more)

-- a further call of a batch
pub batch_goes_on : (start old new : Disk) (s t : Standing) (commands others : List CommandValue) → t ≡ s → others ≡ commands
    → LeavesOnly start old (KeptEither start.sectors s.number s.state commands)
    → LeavesOnly old new (KeptEither old.sectors t.number t.state others)
    → LeavesOnly start new (KeptEither start.sectors s.number s.state commands)
batch_goes_on start old new s t commands others same same_commands so_far more =
    then_more start old new (λ n. KeptEither n s.number s.state commands) so_far
    (subst (λ (cs : List CommandValue). LeavesOnly old new (KeptEither old.sectors s.number s.state cs)) same_commands
    (subst (λ (u : Standing). LeavesOnly old new (KeptEither old.sectors u.number u.state others)) same more))

-- calls that leave the number and the state leave them, or those after the commands
pub or_after : (old new : Disk) (number : ℕ) (state : State) (commands : List CommandValue)
    → LeavesOnly old new (KeptMeans old.sectors number state) → LeavesOnly old new (KeptEither old.sectors number state commands)
or_after old new number state commands leaves =
    weaker old new (KeptMeans old.sectors number state) (KeptEither old.sectors number state commands) leaves (λ h image kept. inl kept)

-- a batch after a checkpoint
pub batch_after : (start old begun new : Disk) (number n : ℕ) (state t : State) (commands others : List CommandValue)
    → begun ≡ old → n ≡ number → t ≡ state → others ≡ commands
    → LeavesOnly start old (KeptMeans start.sectors number state)
    → LeavesOnly begun new (KeptEither begun.sectors n t others) → LeavesOnly start new (KeptEither start.sectors number state commands)
batch_after start old begun new number n state t commands others same same_number same_state same_commands freed written =
    then_more start old new (λ k. KeptEither k number state commands) (or_after start old number state commands freed)
    (rw (← same, ← same_number, ← same_state, ← same_commands) written)

-- a run whose batch was begun is also the run with the batch queued
pub still_queued : (d : Disk) (r : Run) (batch behind : List CommandValue) → r.underway ≡ [] → r.queued ≡ batch ++ behind
    → IsRun d (with_batch_begun r batch behind) → IsRun d r
still_queued d r batch behind none queued run = record {
  passes = subst (λ (cs : List CommandValue). legal r.start cs ≡ true) same run.passes;
  marks = λ k mark at. goes _ (run.marks k mark at);
}
  where
    same : r.written ++ (batch ++ behind) ≡ r.written ++ (r.underway ++ r.queued)
    same = rw (none, queued) refl

    goes : (mark : Mark) → IsMarked d (with_batch_begun r batch behind) mark → IsMarked d r mark
    goes mark was = record {
      written = was.written;
      passed = was.passed;
      each = λ h image left.
          subst (λ (cs : List CommandValue). HasPrefix d.sectors r.first r.start cs mark.acknowledged image) same (was.each h image left);
    }

-- if a write ends in a fault, its run is what it was
pub faulted_run : {D : Type 0} (disk : D → Disk) (r written other : Run) (fault : WriteFault D)
    → LeavesRun disk r written (Err fault) → LeavesRun disk r other (Err fault)
faulted_run disk r written other (Refused back cause) run = run
faulted_run disk r written other (Failed left fault) run = run

-- a refusal that leaves the journal as it was leaves the store at rest
pub refused_as_it_was : {D : Type 0} (disk : D → Disk) (j : JournalView D) (answer : Result (JournalView D) (WriteFault D))
    → IfRefused answer (λ back cause. (back ≡ j) × (cause ≡ Memory)) → Rests disk j
    → IfRefused answer (λ back _. RestsAt disk j.standing.number j.standing.state back)
refused_as_it_was disk j (Ok behind) same rests = cc
refused_as_it_was disk j (Err (Refused back cause)) same rests =
    rw same.0 (rests_at disk j.standing.number j.standing.state j rests refl refl)
refused_as_it_was disk j (Err (Failed left fault)) same rests = cc

-- a store after the batch of one command
pub written_rests : {D : Type 0} (disk : D → Disk) (w : WritingView D) (number : ℕ) (state : State) (command : CommandValue)
    (answer : Result (JournalView D) (WriteFault D))
    → w.standing.number ≡ number → w.standing.state ≡ state → w.commands ≡ command ∷ []
    → IfOk answer (λ behind. behind.standing ≡ with_batch w.standing w.commands) → IfOk answer (Rests disk)
    → IfOk answer (RestsAt disk (number + 1) (after state (command ∷ [])))
written_rests disk w number state command (Ok behind) same_number same_state same_commands done rests =
    rests_at disk (number + 1) (after state (command ∷ [])) behind rests
    (omega (arith, ap (λ (s : Standing). s.number) done, same_number, ap length same_commands))
    (ap (λ (s : Standing). s.state) done ∙ rw (same_state, same_commands) refl)
written_rests disk w number state command (Err fault) same_number same_state same_commands done rests = cc

-- the number and the state after the batch of one command
pub written_is : {D : Type 0} (w : WritingView D) (number : ℕ) (state : State) (command : CommandValue)
    (answer : Result (JournalView D) (WriteFault D))
    → w.standing.number ≡ number → w.standing.state ≡ state → w.commands ≡ command ∷ []
    → IfOk answer (λ behind. behind.standing ≡ with_batch w.standing w.commands)
    → IfOk answer (λ behind. (behind.standing.number ≡ number + 1) × (behind.standing.state ≡ after state (command ∷ [])))
written_is w number state command (Ok behind) same_number same_state same_commands done = (
  omega (arith, ap (λ (s : Standing). s.number) done, same_number, ap length same_commands),
  ap (λ (s : Standing). s.state) done ∙ rw (same_state, same_commands) refl,
)
written_is w number state command (Err fault) same_number same_state same_commands done = tt

-- a result that is not a refusal
pub none_refused : {D : Type 0} (P : JournalView D → BeginCause → Type 0) (answer : Result (JournalView D) (WriteFault D))
    → IfRefused answer (λ _ _. ⊥) → IfRefused answer P
none_refused P (Ok behind) none = tt
none_refused P (Err (Refused back cause)) none = absurd none
none_refused P (Err (Failed left fault)) none = tt

-- a run after the batch of its queued commands
pub run_of_queued : {D : Type 0} (disk : D → Disk) (r : Run) (batch behind : List CommandValue) (written : Run)
    (answer : Result (JournalView D) (WriteFault D))
    → r.underway ≡ [] → r.queued ≡ batch ++ behind → IfRefused answer (λ _ _. ⊥)
    → LeavesRun disk (with_batch_begun r batch behind) written answer → LeavesRun disk r written answer
run_of_queued disk r batch behind written (Ok after) none queued taken run = run
run_of_queued disk r batch behind written (Err (Refused back cause)) none queued taken run = absurd taken
run_of_queued disk r batch behind written (Err (Failed left fault)) none queued taken run =
    still_queued (disk left) r batch behind none queued run
