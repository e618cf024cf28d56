-- The headline follows from the events of a run over its disk.
use Rattle.std.proofs.Common.{◌≡◌, ℕ, List, Result, Ok, Err, IfOk, ap}
use Rattle.iol_types.specs.State.{State}
use Rattle.iol_disk.specs.Disk.{Disk, Shows}
use Rattle.iol_journal.specs.Kept.{IsKept}
use Rattle.iol_journal.specs.Meaning.{Standing, Cause, meaning}
use Rattle.iol_link.specs.Link.{LinkCall, LinkAnswer}
use Rattle.iol_record.specs.Reading.{◌>>=◌}
use Rattle.iol_core.specs.CrashPrefix.{CrashPrefix}
use Rattle.iol_run.specs.PortRuns.{steps_of}
use Rattle.iol_run.specs.Schedules.{IsTraceOf, told_in}
use Rattle.iol_run.specs.declared.schedule.RunFault.{RunFault}
use Rattle.iol_run.specs.declared.schedule.Trace.{Trace}
use Rattle.iol_run.specs.declared.task.Task.{Task}
use Rattle.iol_headline.proofs.Everywhere.{lawful}
use Rattle.iol_headline.specs.Headline.{IsHeadline}

module _ {D L : Type 0} (disk : D → Disk) (number : L → ℕ) (steps : L → LinkCall → LinkAnswer → L → Type 0) where
  pub headline_of : (result : Result (Trace D L) (RunFault D)) (given : D) (links : List L) (tasks : List Task)
      → IfOk result (IsTraceOf disk number steps given links tasks)
      → IfOk result (λ trace. Shows (disk given) (λ image. IsKept (disk given).sectors image
      → (first : ℕ) (start : State) → meaning (disk given).sectors image ≡ Ok (record { number = first; state = start })
      → CrashPrefix (disk trace.disk) trace.begun first start (told_in trace)))
      → IfOk result (IsHeadline disk number steps given links tasks)
  headline_of (Err fault) given links tasks run crash = tt
  headline_of (Ok trace) given links tasks run crash = record {
    run = run;
    lawful =
        lawful run.journal.standing.number run.journal.standing.state number steps (λ port. steps_of port run.made) links
        (told_in trace) trace.links.items
        run.tells.links_made.count run.tells.ports run.tells.acknowledged;
    crash_prefix = λ honest kept.
        crash honest kept run.journal.standing.number run.journal.standing.state
        (ap (λ (r : Result Standing Cause). r >>= λ s. Ok (record { number = s.number; state = s.state })) (run.recovered.found honest));
  }
