-- What a power stop leaves of a run, from its beginning to its end.
use Rattle.std.proofs.Common.{◌≡◌, ℕ, IsTrue, List, [], Result, Ok, Err, IfOk, sym, ap, ◌∙◌, subst}
use Rattle.iol_types.specs.Command.{CommandValue}
use Rattle.iol_types.specs.State.{State}
use Rattle.iol_disk.specs.Content.{Image, clock, reads}
use Rattle.iol_disk.specs.Disk.{Disk}
use Rattle.iol_flush.proofs.RunLaws.{holds}
use Rattle.iol_flush.specs.Flushing.{HoldsBy, IsFlushing}
use Rattle.iol_flush.specs.Stages.{disk_of}
use Rattle.iol_flush.specs.declared.stage.FlushStage.{FlushStage}
use Rattle.iol_flush.specs.declared.stage.FlushStage.TheVariants.{Resting}
use Rattle.iol_front.specs.Fronts.{Start}
use Rattle.iol_journal.specs.Journals.{JournalView}
use Rattle.iol_journal.specs.Kept.{IsKept}
use Rattle.iol_journal.specs.Meaning.{Standing, Meaning, Cause, standing_in, meaning}
use Rattle.iol_record.specs.Reading.{◌>>=◌}
use Rattle.iol_journal.specs.Runs as journal
use Rattle.iol_journal.specs.Running.{IsRunAtRest}
use Rattle.iol_core.proofs.CrashPrefix.{crash_prefix}
use Rattle.iol_core.specs.CrashPrefix.{CrashPrefix, marks_of}
use Rattle.iol_core.specs.Events.{Stamp}
use Rattle.iol_core.specs.Words.{accepted}
use Rattle.iol_run.specs.CoreOnDisk.{waiting_of}
use Rattle.iol_run.specs.Runs.{RunView, IsTold, IsMarked}
use Rattle.iol_run.specs.Schedules.{IsFresh}
use Rattle.iol_run.specs.declared.schedule.RunFault.{RunFault}
use Rattle.iol_run.specs.declared.schedule.Trace.{Trace}

module _ {D : Type 0} (disk : D → Disk) (start : Start) where
  abbrev marked : ℕ → List Stamp → List CommandValue → List CommandValue → FlushStage D → Type 0
  marked t events published waiting stage =
      IsFlushing disk start.number start.state published waiting (marks_of t start.number events) stage

  -- a run begins where the journal's does
  pub begins : {L : Type 0} (j : JournalView D) (links : List L) (run : RunView D L) → IsFresh disk j links run
      → IsRunAtRest disk (journal.begun (clock (disk j.disk).content) start.number start.state) j → IsMarked disk start run
  begins j links run fresh resting =
      subst (λ (es : List Stamp).
      marked run.begun es run.master.flusher.published (waiting_of run.master.committed run.master.core) run.master.flusher.stage)
      (sym fresh.events)
      (subst (λ (published : List CommandValue).
      marked run.begun [] published (waiting_of run.master.committed run.master.core) run.master.flusher.stage) (sym fresh.published)
      (subst (λ (waiting : List CommandValue). marked run.begun [] [] waiting run.master.flusher.stage)
      (sym (ap (λ c. waiting_of c run.master.core) fresh.committed ∙ fresh.queue))
      (subst (λ (s : FlushStage D). marked run.begun [] [] [] s) (sym fresh.stage)
      (subst (λ (t : ℕ). marked t [] [] [] (Resting j)) (sym at) resting))))
    where
      at : run.begun ≡ clock (disk j.disk).content
      at = fresh.begun ∙ ap (λ (s : FlushStage D). clock (disk (disk_of s)).content) fresh.stage

  -- each image that a stop leaves of a run has all commands acknowledged by then, and after them only the next ones
  pub leaves : {L : Type 0} (run : RunView D L) → IsTold start run.master run.events → IsMarked disk start run
      → CrashPrefix (disk (disk_of run.master.flusher.stage)) run.begun start.number start.state run.events
  leaves run told marked = crash_prefix d run.begun start.number start.state run.events here.passes told.rise here.images
    where
      d : Disk
      d = disk (disk_of run.master.flusher.stage)

      here : HoldsBy d start.number start.state (accepted run.events) (marks_of run.begun start.number run.events)
      here =
          subst (λ (cs : List CommandValue). HoldsBy d start.number start.state cs (marks_of run.begun start.number run.events))
          (sym told.accepted_is)
          (holds disk start.number start.state run.master.flusher.published (waiting_of run.master.committed run.master.core)
          (marks_of run.begun start.number run.events) run.master.flusher.stage marked)

-- the meaning of an image is the number and the state of the journal on it
abbrev pub number_in : Result Meaning Cause → ℕ
number_in (Ok m) = m.number
number_in (Err cause) = 0

abbrev pub state_in : Result Meaning Cause → State
state_in (Ok m) = m.state
state_in (Err cause) = []

abbrev pub meaning_of : ℕ → State → Result Meaning Cause
meaning_of number state = Ok (record { number = number; state = state })

-- one meaning has one number and one state
pub one_meaning : (number other : ℕ) (state more : State) → meaning_of number state ≡ meaning_of other more
    → (number ≡ other) × (state ≡ more)
one_meaning number other state more same = (ap number_in same, ap state_in same)

pub means_is : (sectors : ℕ) (image : Image) (s : Standing) (first : ℕ) (state : State) → standing_in sectors image ≡ Ok s
    → meaning sectors image ≡ Ok (record { number = first; state = state }) → (s.number ≡ first) × (s.state ≡ state)
means_is sectors image s first state stands means = one_meaning s.number first s.state state same
  where
    same : meaning_of s.number s.state ≡ meaning_of first state
    same = sym (ap (λ (r : Result Standing Cause). r >>= λ s. Ok (record { number = s.number; state = s.state })) stands) ∙ means

-- a fact of a trace holds, given what is known of the disk
pub of_trace : {D L : Type 0} (result : Result (Trace D L) (RunFault D)) (d : Disk) (P : ℕ → State → Trace D L → Type 0)
    → (IsTrue d.honest → IsKept d.sectors (reads d.content) → (first : ℕ) (start : State)
    → meaning d.sectors (reads d.content) ≡ Ok (record { number = first; state = start }) → IfOk result (P first start))
    → IfOk result (λ trace. IsTrue d.honest → IsKept d.sectors (reads d.content) → (first : ℕ) (start : State)
    → meaning d.sectors (reads d.content) ≡ Ok (record { number = first; state = start }) → P first start trace)
of_trace (Ok trace) d P known = known
of_trace (Err fault) d P known = tt
