-- The end of a flusher that received its journal at the start.
use Rattle.std.proofs.Common.{◌≡◌, ◌⊎◌, inl, inr, true, false, List, refl, sym, ◌∙◌, subst}
use Rattle.iol_types.specs.Command.{CommandValue}
use Rattle.iol_disk.specs.Disk.{Disk, HasFailed}
use Rattle.iol_front.specs.Fronts.{Start}
use Rattle.iol_journal.proofs.JournalLaws.{rest_means_its_state}
use Rattle.iol_journal.specs.Journals.{JournalView}
use Rattle.iol_flush.specs.Stages.{IsInStep, names_batch}
use Rattle.iol_flush.specs.Steps.{IsEnd, IsMidway}
use Rattle.iol_flush.specs.declared.flusher.FlushEnd.{FlushEnd}
use Rattle.iol_flush.specs.declared.flusher.FlushEnd.TheVariants as flush
use Rattle.iol_flush.specs.declared.need.Need.{Need}
use Rattle.iol_flush.specs.declared.need.Need.TheVariants as need
use Rattle.iol_flush.specs.declared.stage.FlushStage.{FlushStage}
use Rattle.iol_flush.specs.declared.stage.FlushStage.TheVariants.{Resting, Opening, Given, Checkpointing, Writing, Publishing, Failed}
use Rattle.iol_master.specs.Endings.{EndsFrom, IsOver, IsWhole, NeverMidway}
use Rattle.iol_master.specs.Since.{IsSince}

-- a flusher that ends needs no disk call and has nothing to publish
needs_none : (needs : Need) → names_batch needs ≡ false → (needs ≡ need.Stopped → ⊥)
    → (names_batch needs ≡ true) ⊎ (needs ≡ need.Stopped) ⊎ ⊥ → ⊥
needs_none needs none other (inl batch) = let wrong : true ≡ false = sym batch ∙ none in absurd cc
needs_none needs none other (inr (inl stopped)) = other stopped
needs_none needs none other (inr (inr never)) = absurd never

calls_none : (names_batch need.Disk ≡ true) ⊎ (need.Disk ≡ need.Stopped) ⊎ ⊥ → ⊥
calls_none over = needs_none need.Disk refl (λ is. absurd cc) over

published_all : (names_batch need.Publish ≡ true) ⊎ (need.Publish ≡ need.Stopped) ⊎ ⊥ → ⊥
published_all over = needs_none need.Publish refl (λ is. absurd cc) over

module _ {D : Type 0} (disk : D → Disk) (start : Start) (first : JournalView D) where
  at_rest : (j : JournalView D) (list : List CommandValue) → IsSince disk (Resting first) (Resting j) → IsInStep start (Resting j) list
      → IsWhole disk start first j list
  at_rest j list since step =
      record { behind = step; images = λ rest. rest_means_its_state (disk j.disk) j.standing j.idle (since.sound rest).0 }

  closed : (j back : JournalView D) (list published : List CommandValue) → IsSince disk (Resting first) (Resting j)
      → IsInStep start (Resting j) list → back ≡ j → published ≡ list → IsWhole disk start first back published
  closed j back list published since step same same_list =
      subst (λ (b : JournalView D). IsWhole disk start first b published) (sym same)
      (subst (λ (l : List CommandValue). IsWhole disk start first j l) (sym same_list) (at_rest j list since step))

  -- a flusher that may end has no batch or checkpoint midway
  midway : (stage : FlushStage D) → IsOver stage → IsMidway stage → ⊥
  midway (Opening c) over is = calls_none over
  midway (Given j b) over is = calls_none over
  midway (Checkpointing k b) over is = calls_none over
  midway (Writing w) over is = calls_none over
  midway (Resting j) over is = absurd is
  midway (Publishing j w) over is = absurd is
  midway (Failed d f) over is = absurd is

  pub ends : {F : Type 0} (stage : FlushStage D) (list : List CommandValue) (out : FlushEnd D F) → IsSince disk (Resting first) stage
      → IsOver stage → IsEnd (record { stage = stage; published = list }) out → IsInStep start stage list
      → EndsFrom disk start first out
  ends (Resting j) list (flush.Closed back published) since over is step = closed j back list published since step is.0 is.1
  ends (Opening c) list (flush.Closed back published) since over is step = absurd is.0
  ends (Given j b) list (flush.Closed back published) since over is step = absurd is.0
  ends (Checkpointing k b) list (flush.Closed back published) since over is step = absurd is.0
  ends (Writing w) list (flush.Closed back published) since over is step = absurd is.0
  ends (Publishing j w) list (flush.Closed back published) since over is step = absurd (published_all over)
  ends (Failed d f) list (flush.Closed back published) since over is step = absurd is.0
  ends stage list (flush.Midway left) since over is step = absurd (midway stage over is.0)
  ends (Failed d f) list (flush.Faulted left cause) since over is step =
      subst (λ (x : D). HasFailed (disk first.disk) (disk x)) (sym is.1) (since.counts refl)
  ends (Resting j) list (flush.Faulted left cause) since over is step = absurd cc
  ends (Opening c) list (flush.Faulted left cause) since over is step = absurd cc
  ends (Given j b) list (flush.Faulted left cause) since over is step = absurd cc
  ends (Checkpointing k b) list (flush.Faulted left cause) since over is step = absurd cc
  ends (Writing w) list (flush.Faulted left cause) since over is step = absurd cc
  ends (Publishing j w) list (flush.Faulted left cause) since over is step = absurd cc

  -- so a flusher never ends midway
  pub never_midway : {F : Type 0} (out : FlushEnd D F) → EndsFrom disk start first out → NeverMidway out
  never_midway (flush.Closed back published) is = tt
  never_midway (flush.Midway left) is = absurd is
  never_midway (flush.Faulted left cause) is = tt
