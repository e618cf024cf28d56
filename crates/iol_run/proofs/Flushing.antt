-- Enough turns of the flusher leave all that was accepted acknowledged.
use Rattle.std.proofs.Common.{◌≡◌, refl, ◌≤◌, ℕ, zero, suc, ◌+◌, ◌-◌, true, List, [], ◌∷◌, ◌++◌, length, replicate, Option, None, ap, sym}
use Rattle.std.proofs.Common.{◌∙◌, subst, arith}
use Rattle.std.proofs.Math.Nat.{mul-le-mul_left}
use Rattle.iol_disk.specs.Disk.{Disk}
use Rattle.iol_core.specs.Submit.{writes_no_more}
use Rattle.iol_core.specs.declared.stop.StopCause.{StopCause}
use Rattle.iol_flush.specs.declared.stage.FlushStage.{FlushStage}
use Rattle.iol_front.specs.Fronts.{CommittedView}
use Rattle.iol_journal.specs.Journals.{JournalView}
use Rattle.iol_journal.specs.Layout.{Layout, renewed}
use Rattle.iol_link.specs.Link.{LinkCall, LinkAnswer}
use Rattle.iol_core.specs.Events.{Stamp, stamped}
use Rattle.iol_core.specs.Words.{accepted, acked, HasFailure}
use Rattle.iol_run.proofs.Counted.{IsCounted, step_counted, failure_stays}
use Rattle.iol_run.proofs.Progress.{left_of, turn_fewer, none_left}
use Rattle.iol_run.proofs.Served.{IsServed, Served, step_served}
use Rattle.iol_run.proofs.TurnsLeft.{most_left}
use Rattle.iol_run.specs.CoreOnDisk.{clock_of}
use Rattle.iol_run.specs.Flushed.{AllFlushed, batch_turns, queue_turns}
use Rattle.iol_run.specs.Runs.{RunView}
use Rattle.iol_run.specs.Schedules.{IsFresh}
use Rattle.iol_run.specs.Tasks.{HasMade, IsCountOf, waits_of}
use Rattle.iol_run.specs.declared.step.Step.{Step}
use Rattle.iol_run.specs.declared.step.Step.TheVariants.{Flush}

none_waited : (count waits : ℕ) → IsCountOf count waits → count ≡ 0 → waits ≡ 0
none_waited count waits counts none = grind (arith, counts, none)

module _ {D L : Type 0} (disk : D → Disk) (connection : L → ℕ) (allows : L → LinkCall → LinkAnswer → L → Type 0) where
  -- if steps in two parts were made, the second part was made after the first
  made_parts : (front rest : List Step) (waits : ℕ) (old new : RunView D L) → HasMade disk connection allows (front ++ rest) waits old new
      → (mid : RunView D L) × (early late : ℕ) × HasMade disk connection allows front early old mid × (waits ≡ early + late)
      × HasMade disk connection allows rest late mid new
  made_parts [] rest waits old new made = (old, 0, waits, (refl, refl), omega arith, made)
  made_parts (s ∷ front) rest waits old new made =
      let more = made_parts front rest made.1 made.2 new made.5 in
      (more.0, waits_of made.0 + more.1, more.2, (made.0, more.1, made.2, made.3, refl, more.3), omega (arith, made.4, more.4), more.5)

  -- a failure that was reported before a step is reported after it
  pub steps_told : (steps : List Step) (waits : ℕ) (old new : RunView D L) → HasMade disk connection allows steps waits old new
      → HasFailure old.events → HasFailure new.events
  steps_told [] waits old new made failed = subst (λ (r : RunView D L). HasFailure r.events) (sym made.1) failed
  steps_told (s ∷ steps) waits old new made failed =
      steps_told steps made.1 made.2 new made.5
      (subst (λ (es : List Stamp). HasFailure es) (sym made.3.2)
      (failure_stays old.events (stamped (clock_of disk made.2.master) made.3.0) failed))

  module _ (layout : Layout) (first : ℕ) where
    -- what holds of a run between steps
    pub record Holds (run : RunView D L) : Type 0 where
      pub served : Served layout run.master
      pub counted : IsCounted first run.master.core run.events

    pub steps_hold : (steps : List Step) (waits : ℕ) (old new : RunView D L)
        → HasMade disk connection allows steps waits old new → Holds old → Holds new
    steps_hold [] waits old new made was = subst (λ (r : RunView D L). Holds r) (sym made.1) was
    steps_hold (s ∷ steps) waits old new made was =
        let did = made.3 in
        steps_hold steps made.1 made.2 new made.5 (record {
          served = step_served layout disk connection allows s old.master made.2.master old.ports made.2.ports did.0 made.0 did.1
              was.served;
          counted = subst (λ (es : List Stamp). IsCounted first made.2.master.core es) (sym did.2)
              (step_counted first (clock_of disk made.2.master) layout disk connection allows s old.master made.2.master old.ports
              made.2.ports old.events did.0 made.0 did.1 was.served was.counted);
        })

    -- each turn of the flusher leaves one turn fewer, while none had to wait and no failure is reported
    turns_made : (n waits : ℕ) (old new : RunView D L) → HasMade disk connection allows (replicate n Flush) waits old new → Holds old
        → waits ≡ 0 → (HasFailure new.events → ⊥)
        → left_of layout new.master ≤ left_of layout old.master - n
    turns_made zero waits old new made was none sound =
        subst (λ (r : RunView D L). left_of layout r.master ≤ left_of layout old.master - 0) (sym made.1) (omega arith)
    turns_made (suc n) waits old new made was none sound =
        omega (
          arith,
          turns_made n made.1 mid new made.5 then_ (omega (arith, none, made.4)) sound,
          turn_fewer layout disk old.master.committed old.master mid.master made.3.0 made.0 refl made.3.1.1 was.served
              (omega (arith, none, made.4))
              (λ (failed : writes_no_more old.master.core.stopped ≡ true). quiet (failure_told (was.counted.failure failed)))
              (λ (failed : writes_no_more mid.master.core.stopped ≡ true). quiet (then_.counted.failure failed)),
        )
      where
        mid : RunView D L
        mid = made.2

        then_ : Holds mid
        then_ = steps_hold (Flush ∷ []) (waits_of made.0) old mid (made.0, 0, mid, made.3, omega arith, (refl, refl)) was

        quiet : HasFailure mid.events → ⊥
        quiet failed = sound (steps_told (replicate n Flush) made.1 mid new made.5 failed)

        failure_told : HasFailure old.events → HasFailure mid.events
        failure_told failed = steps_told (Flush ∷ []) (waits_of made.0) old mid (made.0, 0, mid, made.3, omega arith, (refl, refl)) failed

    -- it holds of a run before its first step
    pub fresh_holds : (journal : JournalView D) (links : List L) (run : RunView D L)
        → IsFresh disk journal links run → renewed journal.standing.layout ≡ layout → journal.standing.number ≡ first → Holds run
    fresh_holds journal links run fresh same number = record {
      served =
          subst (λ (c : Option CommittedView). IsServed layout run.master.core run.master.flusher.stage c) (sym fresh.committed)
          (subst (λ (s : FlushStage D). IsServed layout run.master.core s None) (sym fresh.stage) (record {
            batch = fresh.flight;
            layout_is = same;
            newest = tt;
            few_calls = tt;
            few_wait = omega (arith, ap length fresh.queue);
          }));
      counted = subst (λ (es : List Stamp). IsCounted first run.master.core es) (sym fresh.events) (record {
        count = omega (arith, ap length fresh.queue, fresh.number, number);
        acked_is = sym (fresh.number ∙ number);
        failure = λ failed. unstopped run.master.core.stopped fresh.stopped failed;
      });
    }
      where
        unstopped : (stopped : Option StopCause) → stopped ≡ None → writes_no_more stopped ≡ true → HasFailure []
        unstopped stopped none failed = no (subst (λ (o : Option StopCause). writes_no_more o ≡ true) none failed)
          where
            no : writes_no_more None ≡ true → ⊥
            no h = cc

    most_turns : (run : RunView D L) → Holds run → left_of layout run.master ≤ queue_turns layout
    most_turns run is =
        let left = most_left layout run.master.core run.master.flusher.stage run.master.committed is.served.batch is.served.layout_is
        is.served.few_calls in
        let all = mul-le-mul_left (batch_turns layout) is.served.few_wait in
        omega (arith, left, all)

    -- if enough turns end a schedule, all that was accepted is acknowledged
    turns_end : (front : List Step) (n waits : ℕ) (old new : RunView D L)
        → HasMade disk connection allows (front ++ replicate n Flush) waits old new → Holds old → waits ≡ 0
        → (HasFailure new.events → ⊥) → queue_turns layout ≤ n → acked first new.events ≡ first + length (accepted new.events)
    turns_end front n waits old new made was none sound enough =
        let parts = made_parts front (replicate n Flush) waits old new made in
        let mid = steps_hold front parts.1 old parts.0 parts.3 was in
        let last = steps_hold (replicate n Flush) parts.2 parts.0 new parts.5 mid in
        let left : left_of layout new.master ≡ 0 =
        omega (arith, turns_made n parts.2 parts.0 new parts.5 mid (omega (arith, none, parts.4)) sound, most_turns parts.0 mid, enough) in
        let empty = none_left layout new.master.core new.master.flusher.stage new.master.committed last.served.batch
        (λ (failed : writes_no_more new.master.core.stopped ≡ true). sound (last.counted.failure failed)) left in
        omega (arith, last.counted.acked_is, last.counted.count, empty)

    -- it does so for steps that were made from a fresh run; the count of the turns that waited is 0 only if none waited
    pub all_flushed : (steps : List Step) (waits count : ℕ) (journal : JournalView D) (links : List L) (old new : RunView D L)
        → IsFresh disk journal links old → renewed journal.standing.layout ≡ layout → journal.standing.number ≡ first
        → HasMade disk connection allows steps waits old new → IsCountOf count waits
        → AllFlushed (queue_turns layout) steps first count new.events
    all_flushed steps waits count journal links old new fresh same number made counts ends none sound =
        turns_end ends.before ends.turns waits old new
        (subst (λ (ss : List Step). HasMade disk connection allows ss waits old new) ends.order made)
        (fresh_holds journal links old fresh same number) (none_waited count waits counts none) sound ends.enough
