use Rattle.std.proofs.Common.{◌≡◌, ℕ, [], map, length, vec_len, IfOk, sym, ap, ◌∙◌, subst, rules}
use Rattle.std.proofs.lemmas.Result.{IfErr-weaker}
use Rattle.iol_types.specs.State.{State}
use Rattle.iol_disk.specs.Content.{clock, reads}
use Rattle.iol_front.specs.Fronts.{Start}
use Rattle.iol_journal.specs.Runs.{begun}
use Rattle.iol_journal.specs.Running.{IsRunAtRest}
use Rattle.iol_core.specs.CrashPrefix.{CrashPrefix}
use Rattle.iol_run.specs.Causes.{FailsFor}
use Rattle.iol_run.specs.Stamps.{stamp_of}
use Rattle.iol_run.specs.Schedules.{IsRecovered}
use Rattle.iol_run.proofs.Crash.{means_is, of_trace}
use Rattle.iol_run.proofs.Failures.{trace_tells}
use Rattle.iol_run.proofs.Traces.{trace_of}
use Rattle.iol_run.proofs.schedule.run_schedule.Goals as goal

-- the fault of a run that was begun is out of memory
pub returns-in-Ok-new-clause-cause : goal.returns-in-Ok-new-clause-cause
returns-in-Ok-new-clause-cause g c =
    let disk = g.D.SectorDisk.disk in
    let links = vec_len c.args.links in
    let journal = c.in-Ok.journal in
    let count : links ≡ length journal.standing.state = search rules in
    IfErr-weaker c.carry_out.result _ (λ fault. FailsFor disk c.args.disk links fault)
    (λ fault is. subst (λ f. FailsFor disk c.args.disk links f) (sym is) (λ honest.
    (journal.standing, c.in-Ok.ensures.found honest, count)))
    c.carry_out.ensures.fault

pub returns-in-Ok-new-clause-crash_prefix : goal.returns-in-Ok-new-clause-crash_prefix
returns-in-Ok-new-clause-crash_prefix g c =
    let disk = g.D.SectorDisk.disk in
    let d = disk c.args.disk in
    let journal = c.in-Ok.journal in
    let front = c.in-Ok-new.front in
    of_trace c.carry_out.result d (λ first start trace.
    CrashPrefix (disk trace.disk) trace.begun first start (map stamp_of trace.events.items))
    (λ h kept first start means.
    let is = means_is d.sectors (reads d.content) journal.standing first start (c.in-Ok.ensures.found h) means in
    let number : front.start.number ≡ journal.standing.number = ap (λ (s : Start). s.number) c.in-Ok-new.ensures
    ∙ c.number.ensures.number in
    let state : front.start.state ≡ journal.standing.state = ap (λ (s : Start). s.state) c.in-Ok-new.ensures ∙ c.in-Ok.ensures.state in
    let resting : IsRunAtRest disk (begun (clock (disk journal.disk).content) front.start.number front.start.state) journal =
    subst (λ (n : ℕ). IsRunAtRest disk (begun (clock (disk journal.disk).content) n front.start.state) journal) (sym number)
    (subst (λ (s : State). IsRunAtRest disk (begun (clock (disk journal.disk).content) journal.standing.number s) journal) (sym state)
    (c.in-Ok.ensures.begins (λ h. kept))) in
    subst (λ (n : ℕ). IfOk c.carry_out.result (λ trace.
    CrashPrefix (disk trace.disk) trace.begun n start (map stamp_of trace.events.items))) (number ∙ is.0)
    (subst (λ (s : State).
    IfOk c.carry_out.result (λ trace. CrashPrefix (disk trace.disk) trace.begun front.start.number s (map stamp_of trace.events.items)))
    (state ∙ is.1)
    (c.carry_out.ensures.crash_prefix resting)))

pub returns-in-Ok-new-clause-run : goal.returns-in-Ok-new-clause-run
returns-in-Ok-new-clause-run g c =
    let d = g.D.SectorDisk.disk in
    let l = g.L.DeviceLink in
    let journal = c.in-Ok.journal in
    let recovered : IsRecovered d c.args.disk journal = record {
      found = c.in-Ok.ensures.found;
      history = c.in-Ok.ensures.history ∙ ap (λ (s : State). record { first = journal.standing.number; start = s; commands = [] })
          c.in-Ok.ensures.state;
      synced = c.in-Ok.ensures.makes;
    } in
    trace_of d l.number l.steps c.carry_out.result c.args.disk c.args.links.items c.args.schedule.now journal recovered
    c.carry_out.ensures.run
    (trace_tells c.carry_out.result d (d c.args.disk) (d journal.disk) c.in-Ok.ensures.makes c.carry_out.ensures.failures)

-- the journal that was found has another number of ports
pub returns-then-len-from-clause-cause : goal.returns-then-len-from-clause-cause
returns-then-len-from-clause-cause g c = λ h. (c.in-Ok.journal.standing, c.in-Ok.ensures.found h, search rules)

pub returns-in-Err-clause-cause : goal.returns-in-Err-clause-cause
returns-in-Err-clause-cause g c = record {
  says = c.in-Err.ensures.cause;
  makes = c.in-Err.ensures.makes;
  memory = c.in-Err.ensures.memory;
}
