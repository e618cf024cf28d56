-- A failure of the disk is reported exactly if it was counted.
use Rattle.std.proofs.Common.{◌≡◌, ◌≤◌, inl, inr, ⊎_elim, ℕ, List, [], ◌∷◌, ◌++◌, map, Result, Ok, Err, IfOk, ap, sym, ◌∙◌, subst, arith}
use Rattle.iol_disk.specs.Calls.{Call, write, sync, Made, LeftBy}
use Rattle.iol_disk.specs.Disk.{Disk, HasFailed}
use Rattle.iol_flush.specs.Stages.{disk_of}
use Rattle.iol_flush.specs.declared.stage.FlushStage.{FlushStage}
use Rattle.iol_journal.specs.Journals.{JournalView}
use Rattle.iol_link.specs.Link.{LinkCall, LinkAnswer}
use Rattle.iol_core.proofs.Words.{failure-append}
use Rattle.iol_core.specs.Events.{Event, Stamp, stamped}
use Rattle.iol_core.specs.Words.{HasFailure}
use Rattle.iol_run.proofs.AllSteps.{all_tell}
use Rattle.iol_run.proofs.Counted.{failure_stays, failure_told}
use Rattle.iol_run.proofs.DiskSteps.{DiskStep, Stays, Makes, Fails, disk_step}
use Rattle.iol_run.specs.CoreOnDisk.{CoreOnDiskView}
use Rattle.iol_run.specs.Stamps.{stamp_of}
use Rattle.iol_run.specs.Failures.{TellsFailures}
use Rattle.iol_run.specs.Runs.{RunView}
use Rattle.iol_run.specs.Schedules.{IsFresh}
use Rattle.iol_run.specs.Tasks.{HasMade}
use Rattle.iol_run.specs.declared.schedule.RunFault.{RunFault}
use Rattle.iol_run.specs.declared.schedule.Trace.{Trace}
use Rattle.iol_run.specs.declared.step.Step.{Step}

-- a failure is reported exactly if it was counted, and the count does not fall
record Counts (old new : Disk) (told : List Stamp) : Type 0 where
  pub tells : TellsFailures old new told
  pub most : old.failures ≤ new.failures

failed_first : (old mid new : Disk) → HasFailed old mid → mid.failures ≤ new.failures → HasFailed old new
failed_first old mid new (inl rose) le = inl (omega (arith, rose, le))
failed_first old mid new (inr top) le = inr (omega (arith, top, le))

failed_then : (old mid new : Disk) → old.failures ≤ mid.failures → HasFailed mid new → HasFailed old new
failed_then old mid new le (inl rose) = inl (omega (arith, rose, le))
failed_then old mid new le (inr top) = inr top

left_most : (call : Call) (old new : Disk) → LeftBy call old new → old.failures ≤ new.failures
left_most (write n octets) old new is = is.1.failures
left_most sync old new is = is.failures

counts_same : (old new : Disk) (told : List Stamp) → new.failures ≡ old.failures → (HasFailure told → ⊥) → Counts old new told
counts_same old new told same sound = record {
  tells = record { told = λ failed. absurd (sound failed); untold = λ none. same };
  most = omega (arith, same);
}

counts_more : (old mid new : Disk) (told more : List Stamp) → Counts old mid told → Counts mid new more → Counts old new (told ++ more)
counts_more old mid new told more one two = record {
  tells = record {
    told = λ failed.
        ⊎_elim (λ before. failed_first old mid new (one.tells.told before) two.most) (λ behind.
        failed_then old mid new one.most (two.tells.told behind))
        (failure-append told more failed);
    untold = λ none.
        two.tells.untold (λ behind. none (failure_told told more behind))
        ∙ one.tells.untold (λ before. none (failure_stays told more before));
  };
  most = omega (arith, one.most, two.most);
}

step_counts : (t : ℕ) (old new : Disk) (told : List Event) → DiskStep old new told → Counts old new (stamped t told)
step_counts t old new told (Stays same sound) = counts_same old new (stamped t told) (ap (λ (d : Disk). d.failures) same) (sound t)
step_counts t old new told (Makes calls left made silent) =
    subst (λ (es : List Event). Counts old new (stamped t es)) (sym silent) (counts_same old new [] made.makes.no_failure (λ never. never))
step_counts t old new told (Fails calls left why failed telling) =
    let in_ = failed.makes in
    let counted : HasFailed old new = failed_then old in_.between new (omega (arith, in_.before.no_failure)) in_.counted in
    subst (λ (es : List Event). Counts old new (stamped t es)) (sym telling) (record {
      tells = record { told = λ is. counted; untold = λ none. absurd (none (inl tt)) };
      most = omega (arith, in_.before.no_failure, left_most in_.call in_.between new in_.left);
    })

module _ {D L : Type 0} (disk : D → Disk) (connection : L → ℕ) (allows : L → LinkCall → LinkAnswer → L → Type 0) where
  abbrev disk_in : CoreOnDiskView D → Disk
  disk_in master = disk (disk_of master.flusher.stage)

  -- steps that were made from a fresh run report a failure exactly if it was counted
  pub tells_failures : (steps : List Step) (waits : ℕ) (journal : JournalView D) (links : List L) (old new : RunView D L)
      → IsFresh disk journal links old
      → HasMade disk connection allows steps waits old new → TellsFailures (disk journal.disk) (disk_in new.master) new.events
  tells_failures steps waits journal links old new fresh made =
      subst (λ (d : Disk). TellsFailures d (disk_in new.master) new.events) (ap (λ (s : FlushStage D). disk (disk_of s)) fresh.stage)
      (all_tell disk connection allows disk_in Counts
      (λ old new same. counts_same old new [] (ap (λ (d : Disk). d.failures) same) (λ never. never)) counts_more
      (λ t step old new ports last told turned does. step_counts t (disk_in old) (disk_in new) told
      (disk_step disk connection allows step old new ports last told turned does))
      steps waits journal links old new fresh made).tells

-- events that report the failures since the recovery report those since before it
recovered_tells : (given recovered new : Disk) (events : List Stamp) → Made (sync ∷ []) given recovered → TellsFailures recovered new events
    → TellsFailures given new events
recovered_tells given recovered new events made tells = record {
  told = λ failed. failed_then given recovered new (omega (arith, made.no_failure)) (tells.told failed);
  untold = λ none. tells.untold none ∙ made.no_failure;
}

pub trace_tells : {D L : Type 0} (result : Result (Trace D L) (RunFault D)) (disk : D → Disk) (given recovered : Disk)
    → Made (sync ∷ []) given recovered
    → IfOk result (λ trace. TellsFailures recovered (disk trace.disk) (map stamp_of trace.events.items))
    → IfOk result (λ trace. TellsFailures given (disk trace.disk) (map stamp_of trace.events.items))
trace_tells (Ok trace) disk given recovered made tells =
    recovered_tells given recovered (disk trace.disk) (map stamp_of trace.events.items) made tells
trace_tells (Err fault) disk given recovered made tells = tt
