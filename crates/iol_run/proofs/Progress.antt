-- Each turn of the flusher that does not have to wait leaves fewer turns.
use Rattle.std.proofs.Common.{◌≡◌, refl, ◌≤◌, ◌⊎◌, inl, inr, ℕ, zero, suc, ◌+◌, ◌-◌, ◌*◌, ◌&&◌, ◌||◌, nat_eq, nat_lt, nat_le, not, Bool}
use Rattle.std.proofs.Common.{true, false, if◌then◌else◌, is_some, List, [], Ok}
use Rattle.std.proofs.Common.{◌∷◌, length, Option, Some, None, ap, sym, ◌∙◌, subst, arith, rules, length-drop}
use Rattle.std.proofs.Math.Nat.{mul-le-mul_right, mul-zero, one-mul}
use Rattle.iol_disk.specs.Disk.{Disk}
use Rattle.iol_core.specs.Batches.{has_batch}
use Rattle.iol_core.specs.Core.{CoreView}
use Rattle.iol_core.specs.Submit.{writes_no_more}
use Rattle.iol_flush.proofs.Turns.{advances, one_less}
use Rattle.iol_flush.specs.Stages.{FlusherView, HasFewCalls, calls_owed, disk_of, due_need, most_checkpoint_calls, need_of, room_of}
use Rattle.iol_flush.specs.Steps.{HasTaken, HasPublished, IsDiskStep}
use Rattle.iol_flush.specs.Turns.{given_calls, opening_calls}
use Rattle.iol_flush.specs.declared.need.Need.{Need}
use Rattle.iol_flush.specs.declared.need.Need.TheVariants as need
use Rattle.iol_flush.specs.declared.stage.FlushStage.{FlushStage}
use Rattle.iol_flush.specs.declared.stage.FlushStage.TheVariants.{Resting, Opening, Given, Checkpointing, Writing, Publishing, Failed}
use Rattle.iol_front.specs.Fronts.{CommittedView}
use Rattle.iol_types.specs.Command.{CommandValue}
use Rattle.iol_journal.specs.Begin.{wants_checkpoint}
use Rattle.iol_journal.specs.CheckpointViews.{checkpoint_of, stages_left}
use Rattle.iol_journal.specs.Layout.{Layout, is_renewed, renewed}
use Rattle.iol_journal.specs.Body.{values}
use Rattle.iol_journal.specs.declared.batch.Batch.{Batch}
use Rattle.iol_core.specs.Events.{Event}
use Rattle.iol_run.proofs.Batches.{taken_flight}
use Rattle.iol_run.proofs.OwnTurns.{some_count, rests_own, takes_own, written_own, freed_own, begun_own, advanced_own, advanced_less}
use Rattle.iol_run.proofs.OwnTurns.{first_less}
use Rattle.iol_run.proofs.Served.{IsServed, Served}
use Rattle.iol_run.proofs.Serving.{knows}
use Rattle.iol_run.proofs.TurnsLeft.{HasBatch, HasLayout, IsNewest, own_turns, turns_after, turns_left, fewer_after}
use Rattle.iol_run.proofs.TurnsLeft.{given_turns, flies_within}
use Rattle.iol_run.specs.CoreOnDisk.{CoreOnDiskView, IsInFlight, HasFlight, IsAtRest}
use Rattle.iol_run.specs.Flushed.{batch_turns}
use Rattle.iol_run.specs.Tasks.{waits_of}
use Rattle.iol_run.specs.Turns.{need_met, met_by, Acknowledges, Takes, HasCalled, Publishes, Serves, IsTurn}
use Rattle.iol_run.specs.declared.turn.Turned.{Turned}
use Rattle.iol_run.specs.declared.turn.Turned.TheVariants.{Made, Idle, Waited}

-- fewer turns are left if the batch with the flusher has fewer, and the others stay
less_own : (own_old own_new old new : ℕ) → own_new + 1 ≤ own_old → new ≡ old → own_new + new ≤ own_old + old - 1
less_own own_old own_new old new fewer same = omega (arith, fewer, same)

-- fewer turns are left if a batch is taken from the waiting commands
less_after : (own old new : ℕ) → own + 1 + new ≤ old → own + new ≤ 0 + old - 1
less_after own old new fewer = omega (arith, fewer)

-- if no batch may be taken, none is in flight and the disk has not failed, nothing waits
pub nothing_waits : (waits flies : ℕ) (failed : Bool) → (not (nat_eq waits 0) && nat_eq flies 0 && not failed) ≡ false → flies ≡ 0
    → (failed ≡ true → ⊥)
    → waits ≡ 0
nothing_waits zero flies failed none rests sound = refl
nothing_waits (suc n) flies true none rests sound = absurd (sound refl)
nothing_waits (suc n) zero false none rests sound = search rules
nothing_waits (suc n) (suc flies) false none rests sound = absurd (omega (arith, rests))

-- if a turn that may take a batch makes a disk call, no batch may be taken, or the layout is an older one
none_there : (newest other there : Bool) → need_met (if not newest || other then due_need newest else need.Batch) there ≡ need.Disk
    → (there ≡ false) ⊎ (newest ≡ false)
none_there false other there met = inr refl
none_there true true true met = search rules
none_there true true false met = inl refl
none_there true false there met = search rules

never_stopped : (newest other there : Bool)
    → need_met (if not newest || other then due_need newest else need.Batch) there ≡ need.Stopped → ⊥
never_stopped false other there met = search rules
never_stopped true true true met = search rules
never_stopped true true false met = search rules
never_stopped true false there met = search rules

module _ {D : Type 0} where
  -- fewer turns are left after a disk call, or nothing waits
  abbrev IsLess : ℕ → FlushStage D → FlushStage D → Type 0
  IsLess waits old new =
      (own_turns waits new None + 1 ≤ own_turns waits old None) ⊎ ((waits ≡ 0) × (own_turns waits new None ≡ 0))

  -- a flusher at rest makes a disk call if nothing waits, or if the layout is an older one
  abbrev MayAdvance : ℕ → FlushStage D → Type 0
  MayAdvance waits (Resting j) = (waits ≡ 0) ⊎ (is_renewed j.standing.layout ≡ false)
  MayAdvance waits stage = Unit {0}

module _ {D : Type 0} (layout : Layout) where
  -- the turns that are left of a master
  abbrev pub left_of : CoreOnDiskView D → ℕ
  left_of master = turns_left layout master.core master.flusher.stage master.committed

  -- one turn fewer is left, or none
  abbrev pub IsFewer : CoreOnDiskView D → CoreOnDiskView D → Type 0
  IsFewer old new = left_of new ≤ left_of old - 1

  acknowledged_fewer : (old new : CoreOnDiskView D) (committed : CommittedView) (told : List Event) → old.committed ≡ Some committed
      → Acknowledges old new told → IsAtRest old.flusher.stage → IsNewest old.flusher.stage (Some committed) → IsFewer old new
  acknowledged_fewer old new committed told there is at newest =
      less_own (own_turns (length old.core.queue) old.flusher.stage old.committed)
      (own_turns (length new.core.queue) new.flusher.stage new.committed) (turns_after layout old.core) (turns_after layout new.core)
      (omega (arith, before, after)) (ap (λ (n : ℕ). batch_turns layout * n) behind)
    where
      before : own_turns (length old.core.queue) old.flusher.stage old.committed ≡ 1
      before = ap (own_turns (length old.core.queue) old.flusher.stage) there

      after : own_turns (length new.core.queue) new.flusher.stage new.committed ≡ 0
      after =
          ap (own_turns (length new.core.queue) new.flusher.stage) is.2
          ∙ (ap (λ (f : FlusherView D). own_turns (length new.core.queue) f.stage None) is.1
          ∙ rests_own (length new.core.queue) old.flusher.stage committed at newest)

      behind : length new.core.queue - new.core.flight ≡ length old.core.queue - old.core.flight
      behind =
          omega (
            arith,
            ap (λ (c : CoreView). length c.queue) is.0,
            ap (λ (c : CoreView). c.flight) is.0,
            length-drop old.core.flight old.core.queue,
          )

  taken_own : (waits : ℕ) (s t : FlushStage D) (batch : Batch) → HasTaken s batch t → HasLayout layout s
      → 1 ≤ length (values batch.commands.items)
      → own_turns waits t None + 1 ≤ batch_turns layout * length (values batch.commands.items)
  taken_own waits (Resting j) t batch has same some =
      let commands = values batch.commands.items in
      let full = wants_checkpoint j.standing commands in
      subst (λ (u : FlushStage D). own_turns waits u None + 1 ≤ batch_turns layout * length commands) (sym has)
      (subst (λ (l : Layout). given_calls l commands j.begun full + 1 + 1 ≤ batch_turns layout * length commands) (sym same)
      (given_turns layout commands j.begun full some))
  taken_own waits (Opening c) t batch has same some = absurd has
  taken_own waits (Given j b) t batch has same some = absurd has
  taken_own waits (Checkpointing c b) t batch has same some = absurd has
  taken_own waits (Writing w) t batch has same some = absurd has
  taken_own waits (Publishing j written) t batch has same some = absurd has
  taken_own waits (Failed d f) t batch has same some = absurd has

  pub resting : (core : CoreView) (stage : FlushStage D) (there : Bool) → need_met (need_of stage) there ≡ need.Batch → HasFlight core stage
      → IsAtRest stage × (core.flight ≡ 0)
  resting core (Resting j) there is flight = (tt, flight)
  resting core (Opening c) there is flight = search rules
  resting core (Given j b) there is flight = search rules
  resting core (Checkpointing c b) there is flight = search rules
  resting core (Writing w) there is flight = search rules
  resting core (Publishing j written) there is flight = search rules
  resting core (Failed d f) there is flight = search rules

  takes_fewer : (old new : CoreOnDiskView D) (told : List Event) (turned : Turned) → old.committed ≡ None → met_by old ≡ need.Batch
      → Takes old new told turned → IsServed layout old.core old.flusher.stage None → waits_of turned ≡ 0
      → (writes_no_more old.core.stopped ≡ true → ⊥)
      → IsFewer old new
  takes_fewer old new told Made none needs is was waits sound =
      subst (λ (n : ℕ). left_of new ≤ n + turns_after layout old.core - 1) (sym before)
      (less_after own_new (turns_after layout old.core) (turns_after layout new.core)
      (subst (λ (n : ℕ). own_new + 1 + turns_after layout new.core ≤ n)
      (ap (λ (n : ℕ). batch_turns layout * n) waiting)
      (fewer_after (batch_turns layout) (length new.core.queue) new.core.flight (own_new + 1)
      own (flies_within new.core commands flight).1)))
    where
      own_new : ℕ
      own_new = own_turns (length new.core.queue) new.flusher.stage new.committed

      rest : IsAtRest old.flusher.stage × (old.core.flight ≡ 0)
      rest = resting old.core old.flusher.stage (has_batch old.core) needs was.batch

      before : own_turns (length old.core.queue) old.flusher.stage old.committed ≡ 0
      before =
          ap (own_turns (length old.core.queue) old.flusher.stage) none
          ∙ takes_own (length old.core.queue) old.flusher.stage (has_batch old.core) needs

      commands : List CommandValue
      commands = values is.0.commands.items

      flight : IsInFlight new.core commands
      flight = taken_flight old.core new.core (room_of old.flusher.stage) is.0 is.1

      own : own_new + 1 ≤ batch_turns layout * new.core.flight
      own =
          subst (λ (n : ℕ). own_new + 1 ≤ batch_turns layout * n) (sym flight.flight)
          (subst (λ (c : Option CommittedView).
          own_turns (length new.core.queue) new.flusher.stage c + 1 ≤ batch_turns layout * length commands) (sym is.4)
          (taken_own (length new.core.queue) old.flusher.stage new.flusher.stage is.0 is.2 was.layout_is flight.some))

      waiting : length new.core.queue ≡ length old.core.queue - old.core.flight
      waiting = omega (arith, ap (λ (c : CoreView). length c.queue) is.1.others, rest.1)
  takes_fewer old new told Idle none needs is was waits sound = omega (arith, after)
    where
      rest : IsAtRest old.flusher.stage × (old.core.flight ≡ 0)
      rest = resting old.core old.flusher.stage (has_batch old.core) needs was.batch

      empty : length old.core.queue ≡ 0
      empty = nothing_waits (length old.core.queue) old.core.flight (writes_no_more old.core.stopped) is.0 rest.1 sound

      behind : length old.core.queue - old.core.flight ≡ 0
      behind = omega (arith, empty)

      after : left_of new ≡ 0
      after =
          ap left_of is.1
          ∙ omega (
            arith,
            ap (own_turns (length old.core.queue) old.flusher.stage) none,
            takes_own (length old.core.queue) old.flusher.stage (has_batch old.core) needs,
            ap (λ (n : ℕ). batch_turns layout * n) behind
                ∙ mul-zero (batch_turns layout),
          )
  takes_fewer old new told Waited none needs is was waits sound = absurd (omega (arith, waits))

  module _ (disk : D → Disk) where
    -- a disk call leaves fewer turns
    called_less : (waits : ℕ) (old new : FlushStage D) → MayAdvance waits old → HasFewCalls old → HasFewCalls new
        → IsDiskStep disk old new (Ok tt) → IsLess waits old new
    called_less waits (Resting j) new (inl none) few_old few_new step =
        inr (none, ap (λ (n : ℕ). own_turns n new None) none ∙ advanced_own (checkpoint_of j) new step.0.1)
    called_less zero (Resting j) new (inr older) few_old few_new step = inr (refl, advanced_own (checkpoint_of j) new step.0.1)
    called_less (suc n) (Resting j) new (inr older) few_old few_new step =
        let counts = some_count (suc n) (opening_calls (Resting j)) (nat_lt 0 (suc n)) refl (omega arith) in
        let opens : opening_calls (Resting j) ≡ most_checkpoint_calls (renewed j.standing.layout) + 1 =
        ap (λ (is : Bool). if is then 0 else most_checkpoint_calls (renewed j.standing.layout) + 1) older in
        inl (subst (λ (most : ℕ). own_turns (suc n) new None + 1 ≤ most) (sym (counts ∙ opens))
        (first_less (suc n) (checkpoint_of j) new step.0.1 few_new))
    called_less zero (Opening c) new may few_old few_new step = inr (refl, advanced_own c new step.0)
    called_less (suc n) (Opening c) new may few_old few_new step =
        let counts = some_count (suc n) (length (stages_left c)) (nat_lt 0 (suc n)) refl (omega arith) in
        let less : length (calls_owed new) + 1 ≤ length (stages_left c) =
        omega (arith, one_less (stages_left c) (calls_owed new) (disk c.disk) (disk (disk_of new)) step.1) in
        inl (subst (λ (most : ℕ). own_turns (suc n) new None + 1 ≤ most) (sym counts)
        (advanced_less (suc n) (length (stages_left c)) c new step.0 less))
    called_less waits (Given j b) new may few_old few_new step =
        inl (omega (
          arith,
          begun_own waits (wants_checkpoint j.standing (values b.commands.items)) j b new step.0,
          advances disk (Given j b) new (omega arith) few_old few_new step,
        ))
    called_less waits (Checkpointing c b) new may few_old few_new step =
        inl (omega (arith, freed_own waits c b new step.0, advances disk (Checkpointing c b) new (omega arith) few_old few_new step))
    called_less waits (Writing w) new may few_old few_new step =
        inl (omega (arith, written_own waits w new step.0, advances disk (Writing w) new (omega arith) few_old few_new step))
    called_less waits (Publishing j written) new may few_old few_new step = absurd step.0
    called_less waits (Failed d f) new may few_old few_new step = absurd step.0

    -- a flusher at rest makes a disk call if no batch may be taken: none waits, or the layout is an older one
    may_advance : (core : CoreView) (stage : FlushStage D) → need_met (need_of stage) (has_batch core) ≡ need.Disk → HasFlight core stage
        → (writes_no_more core.stopped ≡ true → ⊥) → MayAdvance (length core.queue) stage
    may_advance core (Resting j) met flight sound =
        either (none_there (is_renewed j.standing.layout)
        (is_some j.begun || nat_le j.standing.layout.slots (2 * j.standing.used)) (has_batch core) met)
      where
        either : (has_batch core ≡ false) ⊎ (is_renewed j.standing.layout ≡ false) → MayAdvance (length core.queue) (Resting j)
        either (inl none) = inl (nothing_waits (length core.queue) core.flight (writes_no_more core.stopped) none flight sound)
        either (inr older) = inr older
    may_advance core (Opening c) met flight sound = tt
    may_advance core (Given j b) met flight sound = tt
    may_advance core (Checkpointing c b) met flight sound = tt
    may_advance core (Writing w) met flight sound = tt
    may_advance core (Publishing j written) met flight sound = tt
    may_advance core (Failed d f) met flight sound = tt

    -- a disk call that leaves fewer turns of the batch, or after which nothing waits, leaves the master fewer turns
    less_left : (old new : CoreOnDiskView D) → old.committed ≡ None → new.committed ≡ None → new.core ≡ old.core
        → IsLess (length old.core.queue) old.flusher.stage new.flusher.stage → IsFewer old new
    less_left old new none after same (inl less) =
        less_own (own_turns (length old.core.queue) old.flusher.stage old.committed)
        (own_turns (length new.core.queue) new.flusher.stage new.committed) (turns_after layout old.core) (turns_after layout new.core)
        (omega (
          arith,
          less,
          ap (own_turns (length old.core.queue) old.flusher.stage) none,
          ap (own_turns (length new.core.queue) new.flusher.stage) after,
          ap (λ (c : CoreView). own_turns (length c.queue) new.flusher.stage None) same,
        ))
        (ap (turns_after layout) same)
    less_left old new none after same (inr rests) = omega (arith, own, behind)
      where
        own : own_turns (length new.core.queue) new.flusher.stage new.committed ≡ 0
        own =
            ap (own_turns (length new.core.queue) new.flusher.stage) after
            ∙ (ap (λ (c : CoreView). own_turns (length c.queue) new.flusher.stage None) same ∙ rests.1)

        empty : length new.core.queue - new.core.flight ≡ 0
        empty = omega (arith, ap (λ (c : CoreView). length c.queue) same, rests.0)

        behind : turns_after layout new.core ≡ 0
        behind = ap (λ (n : ℕ). batch_turns layout * n) empty ∙ mul-zero (batch_turns layout)

    called_fewer : (old new : CoreOnDiskView D) (told : List Event) → old.committed ≡ None → new.committed ≡ None
        → met_by old ≡ need.Disk
        → HasCalled disk old new told → IsServed layout old.core old.flusher.stage None → (writes_no_more old.core.stopped ≡ true → ⊥)
        → (writes_no_more new.core.stopped ≡ true → ⊥) → IsFewer old new
    called_fewer old new [] none after met is was before sound =
        less_left old new none after is.0
        (called_less (length old.core.queue) old.flusher.stage new.flusher.stage
        (may_advance old.core old.flusher.stage met was.batch before) was.few_calls is.2 is.1)
    called_fewer old new (e ∷ told) none after met is was before sound =
        absurd (sound (ap (λ (c : CoreView). writes_no_more c.stopped) is.2 ∙ knows old.core.stopped))

    publishing : (waits : ℕ) (stage : FlushStage D) (published : List CommandValue) (new : FlusherView D) (committed : CommittedView)
        → HasPublished stage published new committed
        → own_turns waits stage None ≡ 2
    publishing waits (Publishing j written) published new committed has = refl
    publishing waits (Opening c) published new committed has = absurd has
    publishing waits (Resting j) published new committed has = absurd has
    publishing waits (Given j b) published new committed has = absurd has
    publishing waits (Checkpointing c b) published new committed has = absurd has
    publishing waits (Writing w) published new committed has = absurd has
    publishing waits (Failed d f) published new committed has = absurd has

    publishes_fewer : (old new : CoreOnDiskView D) (told : List Event) → old.committed ≡ None → Publishes old new told → IsFewer old new
    publishes_fewer old new told none is =
        less_own (own_turns (length old.core.queue) old.flusher.stage old.committed)
        (own_turns (length new.core.queue) new.flusher.stage new.committed) (turns_after layout old.core) (turns_after layout new.core)
        (omega (
          arith,
          ap (own_turns (length old.core.queue) old.flusher.stage) none,
          ap (own_turns (length new.core.queue) new.flusher.stage) is.3,
          publishing (length old.core.queue) old.flusher.stage old.flusher.published new.flusher is.0 is.1,
        ))
        (ap (turns_after layout) is.2)

    pub stopped : (core : CoreView) (stage : FlushStage D) (there : Bool) → need_met (need_of stage) there ≡ need.Stopped
        → HasFlight core stage → writes_no_more core.stopped ≡ true
    stopped core (Failed d f) there met flight = flight
    stopped core (Resting j) there met flight =
        absurd (never_stopped (is_renewed j.standing.layout)
        (is_some j.begun || nat_le j.standing.layout.slots (2 * j.standing.used)) there met)
    stopped core (Opening c) there met flight = search rules
    stopped core (Given j b) there met flight = search rules
    stopped core (Checkpointing c b) there met flight = search rules
    stopped core (Writing w) there met flight = search rules
    stopped core (Publishing j written) there met flight = search rules

    serves_fewer : (need : Need) (old new : CoreOnDiskView D) (told : List Event) (turned : Turned) → met_by old ≡ need
        → old.committed ≡ None
        → Serves disk need old new told turned → IsServed layout old.core old.flusher.stage None → waits_of turned ≡ 0
        → (writes_no_more old.core.stopped ≡ true → ⊥) → (writes_no_more new.core.stopped ≡ true → ⊥) → IsFewer old new
    serves_fewer need.Batch old new told turned needs none is was waits before after =
        takes_fewer old new told turned none needs is was waits before
    serves_fewer need.Disk old new told Made needs none is was waits before after =
        called_fewer old new told none is.1 needs is.2 was before after
    serves_fewer need.Disk old new told Idle needs none is was waits before after = absurd is
    serves_fewer need.BatchOrDisk old new told turned needs none is was waits before after = absurd is
    serves_fewer need.Disk old new told Waited needs none is was waits before after = absurd (omega (arith, waits))
    serves_fewer need.Publish old new told turned needs none is was waits before after = publishes_fewer old new told none is.1
    serves_fewer need.Stopped old new told turned needs none is was waits before after =
        absurd (before (stopped old.core old.flusher.stage (has_batch old.core) needs was.batch))

    -- a turn that does not have to wait leaves fewer turns, while the disk does not fail
    pub turn_fewer : (committed : Option CommittedView) (old new : CoreOnDiskView D) (told : List Event) (turned : Turned) → old.committed
        ≡ committed
        → IsTurn disk committed old new told turned → Served layout old → waits_of turned ≡ 0 → (writes_no_more old.core.stopped ≡ true → ⊥)
        → (writes_no_more new.core.stopped ≡ true → ⊥) → IsFewer old new
    turn_fewer (Some committed) old new told turned there is was waits before after =
        let served = subst (λ (c : Option CommittedView). IsServed layout old.core old.flusher.stage c) there was in
        acknowledged_fewer old new committed told there is.1 served.batch.1 served.newest
    turn_fewer None old new told turned there is was waits before after =
        serves_fewer (met_by old) old new told turned refl there is
        (subst (λ (c : Option CommittedView). IsServed layout old.core old.flusher.stage c) there was) waits before after

-- if each command needs a turn at least and no turn is left, there are no commands
no_turns : (each waits flies : ℕ) → 1 ≤ each → each * (waits - flies) ≡ 0 → flies ≡ 0 → waits ≡ 0
no_turns each waits flies some none rests =
    omega (
      arith,
      subst (λ (n : ℕ). n ≤ each * (waits - flies)) (one-mul (waits - flies)) (mul-le-mul_right (waits - flies) some),
      none,
      rests,
    )

module _ {D : Type 0} (layout : Layout) where
  -- if no turn is left, nothing waits
  pub none_left : (core : CoreView) (stage : FlushStage D) (committed : Option CommittedView) → HasBatch core stage committed
      → (writes_no_more core.stopped ≡ true → ⊥) → turns_left layout core stage committed ≡ 0 → length core.queue ≡ 0
  none_left core stage (Some committed) batch sound none = absurd (omega (arith, none))
  none_left core (Resting j) None batch sound none =
      no_turns (batch_turns layout) (length core.queue) core.flight (omega arith) (omega (arith, none)) batch
  none_left core (Opening c) None batch sound none =
      no_turns (batch_turns layout) (length core.queue) core.flight (omega arith) (omega (arith, none)) batch
  none_left core (Given j b) None batch sound none = absurd (omega (arith, none))
  none_left core (Checkpointing c b) None batch sound none = absurd (omega (arith, none))
  none_left core (Writing w) None batch sound none = absurd (omega (arith, none))
  none_left core (Publishing j written) None batch sound none = absurd (omega (arith, none))
  none_left core (Failed d f) None batch sound none = absurd (sound batch)
