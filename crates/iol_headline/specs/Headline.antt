-- What holds of a whole run: the headline.
use Rattle.std.specs.Prelude.{ℕ, List}
use Rattle.iol_disk.specs.Disk.{Disk, Shows}
use Rattle.iol_journal.specs.Kept.{IsKept}
use Rattle.iol_link.specs.Link.{LinkCall, LinkAnswer}
use Rattle.iol_core.specs.CrashPrefix.{CrashPrefix}
use Rattle.iol_run.specs.Schedules.{IsTraceOf, told_in}
use Rattle.iol_run.specs.declared.schedule.Trace.{Trace}
use Rattle.iol_run.specs.declared.task.Task.{Task}
use Rattle.iol_headline.specs.Laws.{IsLawful}

module _ {D L : Type 0} (disk : D → Disk) (number : L → ℕ) (steps : L → LinkCall → LinkAnswer → L → Type 0) where
  -- the headline, of a given disk, links and a schedule, and of the trace that comes out. The schedule was run over the journal that
  -- recovery found on that disk, with these links. What each event reports of a port follows from the events before it. And if what
  -- an honest disk showed was kept, a power stop at any moment leaves the state after a prefix of the accepted commands that holds
  -- every acknowledged one (own)
  pub record IsHeadline (given : D) (links : List L) (tasks : List Task) (trace : Trace D L) : Type 0 where
    pub run : IsTraceOf disk number steps given links tasks trace
    pub lawful : IsLawful run.journal.standing.number run.journal.standing.state (told_in trace)
    pub crash_prefix : Shows (disk given) (λ image. IsKept (disk given).sectors image
        → CrashPrefix (disk trace.disk) trace.begun run.journal.standing.number run.journal.standing.state (told_in trace))
