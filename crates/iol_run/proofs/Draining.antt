-- A schedule that ends in a drain leaves all that was accepted acknowledged.
use Rattle.std.proofs.Common.{◌≡◌, refl, ◌≢◌, ℕ, ◌+◌, true, List, [], ◌∷◌, ◌++◌, length, replicate, take, Option, Some, None, ap, sym}
use Rattle.std.proofs.Common.{◌∙◌, subst, arith}
use Rattle.std.proofs.lemmas.List.{take_all}
use Rattle.iol_disk.specs.Disk.{Disk}
use Rattle.iol_core.specs.Batches.{has_batch}
use Rattle.iol_core.specs.Submit.{writes_no_more}
use Rattle.iol_flush.specs.declared.need.Need.{Need}
use Rattle.iol_flush.specs.declared.need.Need.TheVariants as need
use Rattle.iol_front.specs.Fronts.{CommittedView}
use Rattle.iol_journal.specs.Journals.{JournalView}
use Rattle.iol_journal.specs.Layout.{Layout, renewed}
use Rattle.iol_link.specs.Link.{LinkCall, LinkAnswer}
use Rattle.iol_core.specs.Events.{Event}
use Rattle.iol_core.specs.Words.{accepted, acked, HasFailure}
use Rattle.iol_run.proofs.Flushing.{Holds, steps_told, steps_hold, fresh_holds}
use Rattle.iol_run.proofs.Making.{made_join, tried_made}
use Rattle.iol_run.proofs.Progress.{nothing_waits, resting, stopped}
use Rattle.iol_run.proofs.Served.{IsServed, Served}
use Rattle.iol_run.specs.CoreOnDisk.{CoreOnDiskView}
use Rattle.iol_run.specs.Flushed.{AllDrained}
use Rattle.iol_run.specs.Runs.{RunView}
use Rattle.iol_run.specs.Schedules.{IsFresh}
use Rattle.iol_run.specs.Tasks.{HasMade, HasDrained, HasTried, HasDoneAll, EndsAfter, HasRun}
use Rattle.iol_run.specs.Turns.{Serves, IsTurn, met_by}
use Rattle.iol_run.specs.declared.turn.Turned.TheVariants.{Made, Idle}
use Rattle.iol_run.specs.declared.schedule.Ended.{Ended}
use Rattle.iol_run.specs.declared.schedule.Ended.TheVariants.{Whole}
use Rattle.iol_run.specs.declared.step.Step.{Step}
use Rattle.iol_run.specs.declared.step.Step.TheVariants.{Flush}
use Rattle.iol_run.specs.declared.task.Task.{Task}
use Rattle.iol_run.specs.declared.task.Task.TheVariants.{Drain}

idle_unmade : Idle ≢ Made
idle_unmade same = cc

module _ {D : Type 0} (layout : Layout) (disk : D → Disk) where
  -- if the flusher is served and finds nothing to do, nothing waits
  serves_none : (need : Need) (old new : CoreOnDiskView D) (told : List Event) → met_by old ≡ need
      → Serves disk need old new told Idle → IsServed layout old.core old.flusher.stage None → (writes_no_more old.core.stopped ≡ true → ⊥)
      → length new.core.queue ≡ 0
  serves_none need.Batch old new told needs is was sound =
      ap (λ (master : CoreOnDiskView D). length master.core.queue) is.1
      ∙ nothing_waits (length old.core.queue) old.core.flight (writes_no_more old.core.stopped) is.0
      (resting layout old.core old.flusher.stage (has_batch old.core) needs was.batch).1 sound
  serves_none need.Disk old new told needs is was sound = absurd is
  serves_none need.BatchOrDisk old new told needs is was sound = absurd is
  serves_none need.Publish old new told needs is was sound = absurd (idle_unmade is.0)
  serves_none need.Stopped old new told needs is was sound =
      absurd (sound (stopped layout disk old.core old.flusher.stage (has_batch old.core) needs was.batch))

  -- a turn that finds nothing to do leaves nothing that waits
  turns_none : (committed : Option CommittedView) (old new : CoreOnDiskView D) (told : List Event) → old.committed ≡ committed
      → IsTurn disk committed old new told Idle → Served layout old → (writes_no_more old.core.stopped ≡ true → ⊥)
      → length new.core.queue ≡ 0
  turns_none (Some committed) old new told there is was sound = absurd (idle_unmade is.0)
  turns_none None old new told there is was sound =
      serves_none (met_by old) old new told refl is
      (subst (λ (c : Option CommittedView). IsServed layout old.core old.flusher.stage c) there was) sound

module _ {D L : Type 0} (disk : D → Disk) (connection : L → ℕ) (allows : L → LinkCall → LinkAnswer → L → Type 0) where
  -- the last of the tasks that were done was done after the others
  last_done : (before : List Task) (task : Task) (made : List Step) (waits : ℕ) (old new : RunView D L)
      → HasDoneAll disk connection allows (before ++ task ∷ []) made waits old new
      → (mid : RunView D L) × (front last : List Step) × (early late : ℕ) × HasMade disk connection allows front early old mid
      × HasTried disk connection allows Whole task last late mid new
  last_done [] task made waits old new done = (
    old,
    [],
    done.0,
    0,
    done.2,
    (refl, refl),
    subst (λ (r : RunView D L). HasTried disk connection allows Whole task done.0 done.2 old r) (sym done.6.2) done.5,
  )
  last_done (first ∷ before) task made waits old new done =
      let more = last_done before task done.1 done.3 done.4 new done.6 in (
        more.0,
        done.0 ++ more.1,
        more.2,
        done.2 + more.3,
        more.4,
        made_join disk connection allows done.0 more.1 done.2 more.3 old done.4 more.0
            (tried_made disk connection allows Whole first done.0 done.2 old done.4 done.5) more.5,
        more.6,
      )

  module _ (layout : Layout) (first : ℕ) where
    drain_leaves : (made : List Step) (old new : RunView D L) → HasDrained disk connection allows made old new
        → Holds disk connection allows layout first old → (HasFailure new.events → ⊥)
        → acked first new.events ≡ first + length (accepted new.events)
    drain_leaves made old new drained was sound = omega (arith, after.counted.acked_is, after.counted.count, empty)
      where
        last : RunView D L
        last = drained.last

        turn : HasMade disk connection allows (Flush ∷ []) 0 last new
        turn = (Idle, 0, new, drained.idle, omega arith, (refl, refl))

        before : Holds disk connection allows layout first last
        before = steps_hold disk connection allows layout first (replicate drained.turns Flush) 0 old last drained.run was

        after : Holds disk connection allows layout first new
        after = steps_hold disk connection allows layout first (Flush ∷ []) 0 last new turn before

        quiet : writes_no_more last.master.core.stopped ≡ true → ⊥
        quiet failed =
            sound (steps_told disk connection allows (Flush ∷ []) 0 last new turn (before.counted.failure failed))

        empty : length new.master.core.queue ≡ 0
        empty =
            turns_none layout disk last.master.committed last.master new.master drained.idle.0 refl drained.idle.1.1 before.served quiet

    pub all_drained : (tasks : List Task) (ended : Ended) (made : List Step) (waits : ℕ) (journal : JournalView D) (links : List L)
        (old new : RunView D L) → IsFresh disk journal links old → renewed journal.standing.layout ≡ layout
        → journal.standing.number ≡ first
        → HasRun disk connection allows tasks ended made waits old new → AllDrained tasks ended first new.events
    all_drained tasks ended made waits journal links old new fresh same number run before ends whole sound =
        drain_leaves parts.2 parts.0 new
        (subst (λ (r : RunView D L). HasDrained disk connection allows parts.2 parts.0 r) (sym end.3) parts.6.1)
        (steps_hold disk connection allows layout first parts.1 parts.3 old parts.0 parts.5
        (fresh_holds disk connection allows layout first journal links old fresh same number)) sound
      where
        end : EndsAfter disk connection allows Whole run.done tasks run.partly run.late run.mid new
        end =
            subst (λ (e : Ended). EndsAfter disk connection allows e run.done tasks run.partly run.late run.mid new) whole run.ends

        all : take run.done tasks ≡ before ++ Drain ∷ []
        all = ap (λ (n : ℕ). take n tasks) end.0 ∙ (take_all (length tasks) tasks (omega arith) ∙ ends)

        parts : (mid : RunView D L) × (front last : List Step) × (early late : ℕ) × HasMade disk connection allows front early old mid
            × HasTried disk connection allows Whole Drain last late mid run.mid
        parts =
            last_done before Drain run.whole run.early old run.mid
            (subst (λ (ts : List Task). HasDoneAll disk connection allows ts run.whole run.early old run.mid) all run.tasks_done)
