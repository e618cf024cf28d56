-- What the calls of a journal do to a run, as contracts see journals and batches.
use Rattle.std.proofs.Common.{◌≡◌, ◌≤◌, inl, ℕ, List, ◌++◌, length, Option, None, refl, sym, ◌∙◌, ap, subst, arith, length-append}
use Rattle.std.proofs.lemmas.List.Sums.{fold-append}
use Rattle.iol_types.specs.Command.{CommandValue}
use Rattle.iol_types.specs.State.{State, apply, after}
use Rattle.iol_disk.specs.Content.{clock}
use Rattle.iol_disk.specs.Disk.{Disk}
use Rattle.iol_disk.specs.Moments.{LeavesOnly}
use Rattle.iol_journal.specs.Journals.{JournalView, WritingView}
use Rattle.iol_layout.specs.Standings.{with_batch}
use Rattle.iol_layout.specs.Kept.{KeptMeans, KeptEither}
use Rattle.iol_layout.specs.Meaning.{Standing}
use Rattle.iol_journal.specs.Runs.{Run, IsRun, number_of, state_of, begun, with_mark, with_batch_begun, with_batch_written}
use Rattle.iol_journal.specs.Running.{IsRunAt, IsRunAtRest, IsRunWriting}
use Rattle.iol_journal.specs.CheckpointRuns.{IsRunCheckpointing}
use Rattle.iol_journal.specs.BegunViews.{BegunView}
use Rattle.iol_journal.specs.CheckpointViews.{CheckpointingView}
use Rattle.iol_journal.specs.Pauses.{IsPaused, IsBeside}
use Rattle.iol_journal.specs.Phases.{IsAtRest}
use Rattle.iol_journal.specs.Underway.{IsUnderway}
use Rattle.iol_journal.proofs.JournalLaws.{checkpoint_means_its_state, rest_means_its_state, underway_means_either}
use Rattle.iol_journal.proofs.RunLaws.{batch_begins, batch_ends, batch_stays, checkpoint_stays, marked, run_begins}

-- a batch is begun
pub run_of_begun : {D : Type 0} (disk : D → Disk) (j : JournalView D) (w : WritingView D) {r : Run} {commands behind : List CommandValue}
    → w.disk ≡ j.disk → w.standing ≡ j.standing → w.commands ≡ commands → IsUnderway disk w
    → IsBeside (disk w.disk) w.standing w.begun
    → r.queued ≡ commands ++ behind → IsRunAtRest disk r j → IsRunWriting disk (with_batch_begun r commands behind) w
run_of_begun {D = D} disk j w {r = r} {commands = commands} {behind = behind} same_disk same_standing same_commands under beside queued (
  rests,
  (run, number, state),
  none,
  paused,
) = (
  under,
  (
    subst (λ (d : D). IsRun (disk d) (with_batch_begun r commands behind)) (sym same_disk)
        (batch_begins (disk j.disk) r commands behind none queued run),
    ap (λ (s : Standing). s.number) same_standing ∙ number,
    ap (λ (s : Standing). s.state) same_standing ∙ state,
  ),
  sym same_commands,
  beside,
)

-- a disk call of a batch is made, or fails
pub run_of_call : {D : Type 0} (disk : D → Disk) (w : WritingView D) {r : Run} (left : D)
    → LeavesOnly (disk w.disk) (disk left) (KeptEither (disk w.disk).sectors w.standing.number w.standing.state w.commands)
    → IsRunWriting disk r w → IsRun (disk left) r
run_of_call disk w {r = r} left leaves (under, (run, number, state), commands, beside) =
    batch_stays (disk w.disk) (disk left) r (rw (← number, ← state, commands) leaves) run

-- the batch is written
pub run_of_written : {D : Type 0} (disk : D → Disk) (w : WritingView D) (j : JournalView D) {r : Run}
    → IsAtRest (disk j.disk) j.standing j.idle → j.standing ≡ with_batch w.standing w.commands
    → LeavesOnly (disk w.disk) (disk j.disk) (KeptEither (disk w.disk).sectors w.standing.number w.standing.state w.commands)
    → IsPaused (disk j.disk) j.standing j.begun → IsRunWriting disk r w → IsRunAtRest disk (with_batch_written r) j
run_of_written disk w j {r = r} rests standing leaves paused (under, (run, number, state), commands, beside) = (
  rests,
  (
    batch_ends (disk j.disk) r (run_of_call disk w j.disk leaves (under, (run, number, state), commands, beside)),
    ap (λ (s : Standing). s.number) standing ∙ omega (arith, number, ap length commands, length-append r.written r.underway),
    ap (λ (s : Standing). s.state) standing ∙ ap (λ (s : State). after s w.commands) state ∙ ap (after (state_of r)) (sym commands)
        ∙ sym (fold-append apply r.start r.written r.underway),
  ),
  refl,
  paused,
)

-- calls that do not change number and state
pub run_of_same_meaning : (old new : Disk) (s t : Standing) (r : Run) → t.number ≡ s.number → t.state ≡ s.state
    → LeavesOnly old new (KeptMeans old.sectors s.number s.state) → IsRunAt old s r → IsRunAt new t r
run_of_same_meaning old new s t r same_number same_state leaves (run, number, state) =
    (checkpoint_stays old new r (rw (← number, ← state) leaves) run, same_number ∙ number, same_state ∙ state)

-- the same disk, with the same standing
pub run_of_same_disk : (old new : Disk) (s t : Standing) (r : Run) → new ≡ old → t ≡ s → IsRunAt old s r → IsRunAt new t r
run_of_same_disk old new s t r same_disk same_standing run = rw (same_disk, same_standing) run

-- a moment, while no batch is underway
pub marked_at_rest : {D : Type 0} (disk : D → Disk) (r : Run) (j : JournalView D) (acknowledged : ℕ) → acknowledged ≤ number_of r
    → IsRunAtRest disk r j → IsRunAtRest disk (with_mark r (record { clock = clock (disk j.disk).content; acknowledged = acknowledged })) j
marked_at_rest disk r j acknowledged le (rests, (run, number, state), none, paused) = (
  rests,
  (
    marked (disk j.disk) r acknowledged le
        (λ h image is. inl (rw (← number, ← state) (rest_means_its_state (disk j.disk) j.standing j.idle rests h image is))) run,
    number,
    state,
  ),
  none,
  paused,
)

-- a moment, while a batch is underway
pub marked_underway : {D : Type 0} (disk : D → Disk) (r : Run) (w : WritingView D) (acknowledged : ℕ) → acknowledged ≤ number_of r
    → IsRunWriting disk r w
    → IsRunWriting disk (with_mark r (record { clock = clock (disk w.disk).content; acknowledged = acknowledged })) w
marked_underway disk r w acknowledged le (under, (run, number, state), commands, beside) = (
  under,
  (
    marked (disk w.disk) r acknowledged le
        (λ h image is. rw (← number, ← state, commands) (underway_means_either disk w under h image is)) run,
    number,
    state,
  ),
  commands,
  beside,
)

-- a moment, while a checkpoint is being written
pub marked_checkpointing : {D : Type 0} (disk : D → Disk) (r : Run) (c : CheckpointingView D) (acknowledged : ℕ) → acknowledged
    ≤ number_of r
    → IsRunCheckpointing disk r c
    → IsRunCheckpointing disk (with_mark r (record { clock = clock (disk c.disk).content; acknowledged = acknowledged })) c
marked_checkpointing disk r c acknowledged le (under, (run, number, state), none) = (
  under,
  (
    marked (disk c.disk) r acknowledged le
        (λ h image is. inl (rw (← number, ← state) (checkpoint_means_its_state disk c under h image is))) run,
    number,
    state,
  ),
  none,
)

-- a journal was found, and is at rest
pub run_of_found : {D : Type 0} (disk : D → Disk) (j : JournalView D) → IsAtRest (disk j.disk) j.standing j.idle → j.begun ≡ None
    → IsRunAtRest disk (begun (clock (disk j.disk).content) j.standing.number j.standing.state) j
run_of_found disk j rests none = (
  rests,
  (
    run_begins (disk j.disk) j.standing.number j.standing.state (rest_means_its_state (disk j.disk) j.standing j.idle rests),
    omega arith,
    refl,
  ),
  refl,
  subst (λ (begun : Option BegunView). IsPaused (disk j.disk) j.standing begun) (sym none) tt,
)
