-- The events of the steps of a schedule, from the given disk to the trace.
use Rattle.std.proofs.Common.{◌≡◌, refl, ◌*◌, ℕ, IsTrue, List, [], length, Result, Ok, Err, IfOk, ap, sym, ◌∙◌, subst}
use Rattle.iol_disk.specs.Content.{clock, reads}
use Rattle.iol_disk.specs.Disk.{Disk}
use Rattle.iol_flush.specs.Stages.{disk_of}
use Rattle.iol_journal.specs.Journals.{JournalView}
use Rattle.iol_journal.specs.Layout.{renewed, total}
use Rattle.iol_link.specs.Link.{LinkCall, LinkAnswer}
use Rattle.iol_core.specs.Events.{Stamp}
use Rattle.iol_core.specs.Words.{durable}
use Rattle.iol_run.proofs.AcknowledgedInRun.{acks_rise}
use Rattle.iol_run.proofs.Answering.{all_answered}
use Rattle.iol_run.proofs.Clocks.{clocks_rise}
use Rattle.iol_run.proofs.Draining.{all_drained}
use Rattle.iol_run.proofs.Flushing.{all_flushed}
use Rattle.iol_run.proofs.Layouts.{more_flushed, turns_within}
use Rattle.iol_run.proofs.LinksMade.{all_link_runs}
use Rattle.iol_run.proofs.Making.{run_made, begun_stays}
use Rattle.iol_run.proofs.PortsOfRun.{all_port_runs}
use Rattle.iol_run.proofs.Stopped.{none_once_failed}
use Rattle.iol_engine.specs.Acknowledged.{AcksRise}
use Rattle.iol_run.specs.Answers.{AnswersClients, clients_of}
use Rattle.iol_run.specs.Clocks.{ClocksRise}
use Rattle.iol_run.specs.Failures.{TellsFailures}
use Rattle.iol_run.specs.Flushed.{AllDrained, AllFlushed, queue_turns}
use Rattle.iol_run.specs.PortRuns.{ArePortRuns}
use Rattle.iol_run.specs.Schedules.{IsRecovered, AreLinkRuns, IsRunFrom, TellsRun, RunsAndTells, IsTraceOf, told_in}
use Rattle.iol_run.specs.Stopped.{NoneOnceFailed}
use Rattle.iol_run.specs.Tasks.{HasMade}
use Rattle.iol_run.specs.declared.schedule.RunFault.{RunFault}
use Rattle.iol_run.specs.declared.schedule.Trace.{Trace}
use Rattle.iol_run.specs.declared.step.Step.{Step}
use Rattle.iol_run.specs.declared.task.Task.{Task}

module _ {D L : Type 0} (disk : D → Disk) (number : L → ℕ) (steps : L → LinkCall → LinkAnswer → L → Type 0) where
  -- the events of a run from a fresh one say what happened in it
  pub tells_run : (journal : JournalView D) (links : List L) (tasks : List Task) (made : List Step) (trace : Trace D L)
      → length links ≡ length journal.standing.state → IsRunFrom disk number steps journal links tasks made trace
      → TellsRun disk number steps journal links made trace
  tells_run journal links tasks made trace count from = record {
    state =
        from.state ∙ (answered.1 ∙ ap (λ (ss : List Stamp). durable journal.standing.number journal.standing.state ss) (sym from.told));
    clients =
        subst (λ (ss : List Stamp). AnswersClients journal.standing.number journal.standing.state [] (clients_of made) ss) (sym from.told)
        answered.0;
    ports =
        subst (λ (ls : List L).
        ArePortRuns number steps journal.standing.number journal.standing.state made links (told_in trace) ls) (sym from.links_are)
        (subst (λ (ss : List Stamp).
        ArePortRuns number steps journal.standing.number journal.standing.state made links ss from.new.ports.links) (sym from.told)
        (all_port_runs number steps journal.standing.number journal.standing.state disk made from.waits journal links from.old from.new
        refl refl
        count from.fresh run));
    links_made =
        subst (λ (ls : List L). AreLinkRuns number steps links (told_in trace) ls) (sym from.links_are)
        (subst (λ (ss : List Stamp). AreLinkRuns number steps links ss from.new.ports.links) (sym from.told)
        (all_link_runs number steps disk made from.waits journal links from.old from.new from.fresh run));
    acknowledged =
        subst (λ (ss : List Stamp). AcksRise journal.standing.number ss) (sym from.told)
        (acks_rise disk number steps made from.waits journal links from.old from.new from.fresh run);
    stopped =
        subst (λ (ss : List Stamp). NoneOnceFailed ss) (sym from.told)
        (none_once_failed disk number steps made from.waits journal links from.old from.new from.fresh run);
    clocks =
        subst (λ (d : D). IsTrue (disk d).honest → ClocksRise trace.begun (clock (disk d).content) (told_in trace)) (sym from.disk_is)
        (λ honest.
        subst (λ (t : ℕ). ClocksRise t (clock (disk (disk_of from.new.master.flusher.stage)).content) (told_in trace))
        (begun_stays disk number steps made from.waits from.old from.new run ∙ sym from.begun)
        (subst (λ (ss : List Stamp). ClocksRise from.new.begun (clock (disk (disk_of from.new.master.flusher.stage)).content) ss)
        (sym from.told)
        (clocks_rise disk number steps made from.waits journal links from.old from.new from.fresh run honest)));
    flushed =
        subst (λ (ss : List Stamp). AllFlushed (queue_turns (renewed journal.standing.layout)) made journal.standing.number trace.waits ss)
        (sym from.told)
        (all_flushed disk number steps
        (renewed journal.standing.layout) journal.standing.number made from.waits trace.waits journal links from.old
        from.new from.fresh refl refl run from.count);
  }
    where
      run : HasMade disk number steps made from.waits from.old from.new
      run = run_made disk number steps tasks trace.ended made from.waits from.old from.new from.run

      answered : AnswersClients journal.standing.number journal.standing.state [] (clients_of made) from.new.events
          × (from.new.master.core.durable ≡ durable journal.standing.number journal.standing.state from.new.events)
      answered =
          all_answered journal.standing.number journal.standing.state disk number steps made from.waits journal links from.old from.new
          refl refl
          from.fresh run

  -- what was run over a journal is a trace over the disk that it was recovered from
  pub trace_of : (result : Result (Trace D L) (RunFault D)) (given : D) (links : List L) (tasks : List Task) (journal : JournalView D)
      → IsRecovered disk given journal → IfOk result (RunsAndTells disk number steps journal links tasks)
      → IfOk result (λ trace. TellsFailures (disk given) (disk trace.disk) (told_in trace))
      → IfOk result (IsTraceOf disk number steps given links tasks)
  trace_of (Err fault) given links tasks journal recovered runs failures = tt
  trace_of (Ok trace) given links tasks journal recovered runs failures = record {
    journal = journal;
    made = runs.0;
    recovered = recovered;
    run = runs.1;
    tells = runs.2;
    failures = failures;
    drained =
        subst (λ (ss : List Stamp). AllDrained tasks trace.ended journal.standing.number ss) (sym runs.1.told)
        (all_drained disk number steps
        (renewed journal.standing.layout) journal.standing.number tasks trace.ended runs.0 runs.1.waits journal links
        runs.1.old runs.1.new runs.1.fresh refl refl runs.1.run);
    flushed = λ honest. more_flushed (queue_turns (renewed journal.standing.layout)) (128 * total journal.standing.layout) runs.0
        journal.standing.number trace.waits (told_in trace)
        (turns_within (disk given).sectors (reads (disk given).content) journal.standing (recovered.found honest)) runs.2.flushed;
  }
