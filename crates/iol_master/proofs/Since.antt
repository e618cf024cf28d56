-- What a flusher keeps from one stage to a later one.
use Rattle.std.proofs.Common.{◌≡◌, inl, inr, Bool, true, false, List, ◌∷◌, Option, Some, None, Result, Ok, Err, refl, sym, ap}
use Rattle.std.proofs.Common.{◌∙◌, subst, arith}
use Rattle.iol_types.specs.Command.{CommandValue}
use Rattle.iol_disk.specs.Calls.{Call}
use Rattle.iol_disk.specs.Disk.{Disk, HasFailed}
use Rattle.iol_disk.specs.declared.fault.DiskFault.{DiskFault}
use Rattle.iol_front.specs.Fronts.{CommittedView}
use Rattle.iol_journal.specs.Begin.{wants_checkpoint}
use Rattle.iol_journal.specs.CheckpointViews.{CheckpointingView, checkpoint_of}
use Rattle.iol_journal.specs.Journals.{JournalView, WritingView, writing_of}
use Rattle.iol_journal.specs.Body.{values}
use Rattle.iol_journal.specs.declared.batch.Batch.{Batch}
use Rattle.iol_flush.specs.Flushing.{IsSound}
use Rattle.iol_flush.specs.Stages.{FlusherView, disk_of, failure_of, next_calls}
use Rattle.iol_flush.specs.Steps.{HasAdvanced, HasBegun, HasMadeOfCheckpoint, HasMade, HasPublished}
use Rattle.iol_flush.specs.Steps.{HasTaken, HasMadeOfBatch, IsDiskStep, IsGift, IsPublished, IsWithdrawn}
use Rattle.iol_flush.specs.declared.fault.FlushFault.{FlushFault}
use Rattle.iol_flush.specs.declared.fault.FlushFault.TheVariants as fault
use Rattle.iol_flush.specs.declared.fault.GiveFault.{GiveFault}
use Rattle.iol_flush.specs.declared.fault.GiveFault.TheVariants as give
use Rattle.iol_flush.specs.declared.stage.FlushStage.{FlushStage}
use Rattle.iol_flush.specs.declared.stage.FlushStage.TheVariants.{Resting, Opening, Given, Checkpointing, Writing, Publishing, Failed}
use Rattle.iol_master.specs.Since.{CountsAs, IsSince}

-- a failure counted since one moment is counted since each earlier one with the same number of failures
fails_from : (first mid last : Disk) → mid.failures ≡ first.failures → HasFailed mid last → HasFailed first last
fails_from first mid last same (inl rose) = inl (omega (arith, same, rose))
fails_from first mid last same (inr most) = inr most

counts_from : (told : Option DiskFault) (first mid last : Disk) → mid.failures ≡ first.failures → CountsAs told mid last
    → CountsAs told first last
counts_from None first mid last same counts = counts ∙ same
counts_from (Some cause) first mid last same failed = fails_from first mid last same failed

-- a stage without a failure reports none, and its disk has counted none
tells_none : (told : Option DiskFault) (cause : DiskFault) → told ≡ None → told ≡ Some cause → ⊥
tells_none told cause none some = let wrong : None ≡ Some cause = sym none ∙ some in absurd cc

counts_none : (told : Option DiskFault) (first last : Disk) → told ≡ None → last.failures ≡ first.failures → CountsAs told first last
counts_none told first last none same = subst (λ (o : Option DiskFault). CountsAs o first last) (sym none) same

module _ {D : Type 0} (disk : D → Disk) where
  pub since_self : (stage : FlushStage D) → IsSince disk stage stage
  since_self stage = record {
    sound = λ sound. sound;
    counts = λ none. counts_none (failure_of stage) (disk (disk_of stage)) (disk (disk_of stage)) none refl;
    failed = λ cause told. refl;
  }

  pub since_same : (old new : FlushStage D) → new ≡ old → IsSince disk old new
  since_same old new same = subst (λ (s : FlushStage D). IsSince disk old s) (sym same) (since_self old)

  -- what is kept from one stage to a second, and from there to a third, is kept from the first to the third
  pub since_both : (old mid new : FlushStage D) → IsSince disk old mid → IsSince disk mid new → IsSince disk old new
  since_both old mid new one two = record {
    sound = λ sound. two.sound (one.sound sound);
    counts = λ none. joined (failure_of mid) refl (one.counts none);
    failed = λ cause told.
        let same : mid ≡ old = one.failed cause told in two.failed cause (ap (λ (s : FlushStage D). failure_of s) same ∙ told) ∙ same;
  }
    where
      joined : (told : Option DiskFault) → failure_of mid ≡ told → CountsAs told (disk (disk_of old)) (disk (disk_of mid))
          → CountsAs (failure_of new) (disk (disk_of old)) (disk (disk_of new))
      joined None is counts =
          counts_from (failure_of new) (disk (disk_of old)) (disk (disk_of mid)) (disk (disk_of new)) counts (two.counts is)
      joined (Some cause) is failed =
          subst (λ (s : FlushStage D). CountsAs (failure_of s) (disk (disk_of old)) (disk (disk_of s))) (sym (two.failed cause is))
          (subst (λ (o : Option DiskFault). CountsAs o (disk (disk_of old)) (disk (disk_of mid))) (sym is) failed)

  -- after a disk call that was made no failure is reported
  checkpointed_none : (c : CheckpointingView D) (batch : Batch) (new : FlushStage D) → HasMadeOfCheckpoint c batch new
      → failure_of new ≡ None
  checkpointed_none c batch (Given j b) has = refl
  checkpointed_none c batch (Checkpointing k b) has = refl
  checkpointed_none c batch (Resting j) has = absurd has
  checkpointed_none c batch (Opening d) has = absurd has
  checkpointed_none c batch (Writing w) has = absurd has
  checkpointed_none c batch (Publishing j w) has = absurd has
  checkpointed_none c batch (Failed d f) has = absurd has

  written_none : (w : WritingView D) (new : FlushStage D) → HasMadeOfBatch w new → failure_of new ≡ None
  written_none w (Writing v) has = refl
  written_none w (Publishing j v) has = refl
  written_none w (Resting j) has = absurd has
  written_none w (Opening c) has = absurd has
  written_none w (Given j b) has = absurd has
  written_none w (Checkpointing k b) has = absurd has
  written_none w (Failed d f) has = absurd has

  begun_none : (full : Bool) (j : JournalView D) (batch : Batch) (new : FlushStage D) → HasBegun full j batch new → failure_of new ≡ None
  begun_none true j batch new has = checkpointed_none (checkpoint_of j) batch new has.1
  begun_none false j batch new has = written_none (writing_of j (values batch.commands.items)) new has.1

  advanced_none : (c : CheckpointingView D) (new : FlushStage D) → HasAdvanced c new → failure_of new ≡ None
  advanced_none c (Resting j) has = refl
  advanced_none c (Opening d) has = refl
  advanced_none c (Given j b) has = absurd has
  advanced_none c (Checkpointing d b) has = absurd has
  advanced_none c (Writing w) has = absurd has
  advanced_none c (Publishing j w) has = absurd has
  advanced_none c (Failed d f) has = absurd has

  made_none : (old new : FlushStage D) → HasMade old new → (failure_of old ≡ None) × (failure_of new ≡ None)
  made_none (Given j b) new has = (refl, begun_none (wants_checkpoint j.standing (values b.commands.items)) j b new has)
  made_none (Checkpointing k b) new has = (refl, checkpointed_none k b new has)
  made_none (Writing w) new has = (refl, written_none w new has)
  made_none (Resting j) new has = (refl, advanced_none (checkpoint_of j) new has.1)
  made_none (Opening c) new has = (refl, advanced_none c new has)
  made_none (Publishing j w) new has = absurd has
  made_none (Failed d f) new has = absurd has

  -- a flusher whose disk call has failed has no disk call left
  owes_none : (old : FlushStage D) (cause : DiskFault) (call : Call) (left : List Call) → failure_of old ≡ Some cause
      → next_calls old ≡ call ∷ left → ⊥
  owes_none (Failed d f) cause call left told owes = absurd cc
  owes_none (Resting j) cause call left told owes = absurd cc
  owes_none (Opening c) cause call left told owes = absurd cc
  owes_none (Given j b) cause call left told owes = absurd cc
  owes_none (Checkpointing k b) cause call left told owes = absurd cc
  owes_none (Writing w) cause call left told owes = absurd cc
  owes_none (Publishing j w) cause call left told owes = absurd cc

  counts_failed : (new : FlushStage D) (cause : DiskFault) (first : Disk) → failure_of new ≡ Some cause
      → HasFailed first (disk (disk_of new)) → CountsAs (failure_of new) first (disk (disk_of new))
  counts_failed new cause first told failed =
      subst (λ (o : Option DiskFault). CountsAs o first (disk (disk_of new))) (sym told) failed

  -- a disk call is made, or fails, or none is made
  pub since_step : (old new : FlushStage D) (answer : Result Unit FlushFault) → IsDiskStep disk old new answer
      → (IsSound disk old → IsSound disk new) → IsSince disk old new
  since_step old new (Ok done) step sound =
      let none = made_none old new step.0 in
      record {
        sound = sound;
        counts = λ was. counts_none (failure_of new) (disk (disk_of old)) (disk (disk_of new)) none.1 step.1.makes.no_failure;
        failed = λ cause told. absurd (tells_none (failure_of old) cause none.0 told);
      }
  since_step old new (Err (fault.Disk cause)) step sound = record {
    sound = sound;
    counts = λ none. counts_failed new cause (disk (disk_of old)) step.0
        (fails_from (disk (disk_of old)) step.2.makes.between (disk (disk_of new)) step.2.makes.before.no_failure
        step.2.makes.counted);
    failed = λ was told. absurd (owes_none old was step.2.call step.1 told step.2.order);
  }
  since_step old new (Err fault.Stopped) step sound = since_same old new step.1
  since_step old new (Err fault.Memory) step sound = since_same old new step.1
  since_step old new (Err fault.Misfit) step sound = since_same old new step.1

  -- a batch is given to a flusher at rest
  given : (old : FlushStage D) (batch : Batch) (new : FlushStage D) → HasTaken old batch new → IsSince disk old new
  given (Resting j) batch new has = subst (λ (s : FlushStage D). IsSince disk (Resting j) s) (sym has) (record {
    sound = λ sound. sound;
    counts = λ none. refl;
    failed = λ cause told. absurd (tells_none None cause refl told);
  })
  given (Opening c) batch new has = absurd has
  given (Given j b) batch new has = absurd has
  given (Checkpointing k b) batch new has = absurd has
  given (Writing w) batch new has = absurd has
  given (Publishing j w) batch new has = absurd has
  given (Failed d f) batch new has = absurd has

  pub since_gift : (old : FlushStage D) (batch : Batch) (new : FlushStage D) (answer : Result Unit GiveFault) → IsGift old batch new answer
      → IsSince disk old new
  since_gift old batch new (Ok done) gift = given old batch new gift
  since_gift old batch new (Err (give.Stopped back)) gift = since_same old new gift.1

  -- a batch is taken back
  pub since_withdrawn : (old new : FlushStage D) (back : Option Batch) → IsWithdrawn old new back → IsSince disk old new
  since_withdrawn (Given j b) new (Some back) is = subst (λ (s : FlushStage D). IsSince disk (Given j b) s) (sym is.0) (record {
    sound = λ sound. sound;
    counts = λ none. refl;
    failed = λ cause told. absurd (tells_none None cause refl told);
  })
  since_withdrawn (Given j b) new None is = absurd is
  since_withdrawn (Resting j) new (Some back) is = absurd is
  since_withdrawn (Resting j) new None is = since_same (Resting j) new is
  since_withdrawn (Opening c) new (Some back) is = absurd is
  since_withdrawn (Opening c) new None is = since_same (Opening c) new is
  since_withdrawn (Checkpointing k b) new (Some back) is = absurd is
  since_withdrawn (Checkpointing k b) new None is = since_same (Checkpointing k b) new is
  since_withdrawn (Writing w) new (Some back) is = absurd is
  since_withdrawn (Writing w) new None is = since_same (Writing w) new is
  since_withdrawn (Publishing j w) new (Some back) is = absurd is
  since_withdrawn (Publishing j w) new None is = since_same (Publishing j w) new is
  since_withdrawn (Failed d f) new (Some back) is = absurd is
  since_withdrawn (Failed d f) new None is = since_same (Failed d f) new is

  -- a batch is published
  published : (old : FlushStage D) (list : List CommandValue) (new : FlusherView D) (committed : CommittedView)
      → HasPublished old list new committed → IsSince disk old new.stage
  published (Publishing j w) list new committed has =
      subst (λ (s : FlushStage D). IsSince disk (Publishing j w) s) (sym (ap (λ (f : FlusherView D). f.stage) has.0)) (record {
        sound = λ sound. sound;
        counts = λ none. refl;
        failed = λ cause told. absurd (tells_none None cause refl told);
      })
  published (Resting j) list new committed has = absurd has
  published (Opening c) list new committed has = absurd has
  published (Given j b) list new committed has = absurd has
  published (Checkpointing k b) list new committed has = absurd has
  published (Writing w) list new committed has = absurd has
  published (Failed d f) list new committed has = absurd has

  pub since_published : (old new : FlusherView D) (answer : Result CommittedView FlushFault) → IsPublished old new answer
      → IsSince disk old.stage new.stage
  since_published old new (Ok committed) is = published old.stage old.published new committed is
  since_published old new (Err why) is = since_same old.stage new.stage (ap (λ (f : FlusherView D). f.stage) is.2)
