-- A flusher waits for memory only with its journal at rest, and may end from there.
use Rattle.std.proofs.Common.{◌≡◌, inl, inr, Bool, true, false, Option, Some, None, if◌then◌else◌, refl, sym, ap, subst}
use Rattle.iol_journal.specs.declared.batch.Batch.{Batch}
use Rattle.iol_journal.specs.Journals.{JournalView}
use Rattle.iol_journal.specs.Layout.{is_renewed}
use Rattle.iol_flush.specs.Stages.{due_need, is_due, names_batch}
use Rattle.iol_flush.specs.Steps.{IsUnfit, IsWithdrawn, MayWant}
use Rattle.iol_flush.specs.declared.need.Need.TheVariants as need
use Rattle.iol_flush.specs.declared.stage.FlushStage.{FlushStage}
use Rattle.iol_flush.specs.declared.stage.FlushStage.TheVariants.{Resting, Opening, Given, Checkpointing, Writing, Publishing, Failed}
use Rattle.iol_master.specs.Endings.{IsOver, MayWait}

module _ {D : Type 0} where
  -- a disk call that may need memory is made with the journal at rest
  wants : (stage : FlushStage D) → MayWant stage → MayWait stage
  wants (Resting j) want = tt
  wants (Given j b) want = tt
  wants (Opening c) want = absurd want
  wants (Checkpointing k b) want = absurd want
  wants (Writing w) want = absurd want
  wants (Publishing j w) want = absurd want
  wants (Failed d f) want = absurd want

  pub waits_for_memory : (old new : FlushStage D) → MayWant old → new ≡ old → MayWait new
  waits_for_memory old new want same = subst (λ (s : FlushStage D). MayWait s) (sym same) (wants old want)

  -- a batch that does not fit leaves the journal at rest
  unfit : (stage : FlushStage D) → IsUnfit stage → MayWait stage
  unfit (Given j b) is = tt
  unfit (Resting j) is = absurd is
  unfit (Opening c) is = absurd is
  unfit (Checkpointing k b) is = absurd is
  unfit (Writing w) is = absurd is
  unfit (Publishing j w) is = absurd is
  unfit (Failed d f) is = absurd is

  pub waits_unfit : (old new : FlushStage D) → IsUnfit old → new ≡ old → MayWait new
  waits_unfit old new is same = subst (λ (s : FlushStage D). MayWait s) (sym same) (unfit old is)

  -- a flusher at rest may be given a batch, or its journal has an older layout
  rest_names : (j : JournalView D) (renewed : Bool) → is_renewed j.standing.layout ≡ renewed → IsOver (Resting j)
  rest_names j true is =
      inl (elim (is_due j) as (λ due. names_batch (if due then due_need (is_renewed j.standing.layout) else need.Batch) ≡ true)
      [ true ↦ ap (λ (renewed : Bool). names_batch (due_need renewed)) is | false ↦ refl ])
  rest_names j false is = inr (inr is)

  rests : (new : FlushStage D) (j : JournalView D) → new ≡ Resting j → IsOver new
  rests new j is = subst (λ (s : FlushStage D). IsOver s) (sym is) (rest_names j (is_renewed j.standing.layout) refl)

  -- once the batch that waits is taken back, the flusher may end
  pub ends_withdrawn : (old new : FlushStage D) (back : Option Batch) → MayWait old → IsWithdrawn old new back → IsOver new
  ends_withdrawn (Resting j) new None may is = rests new j is
  ends_withdrawn (Resting j) new (Some back) may is = absurd is
  ends_withdrawn (Given j b) new (Some back) may is = rests new j is.0
  ends_withdrawn (Given j b) new None may is = absurd is
  ends_withdrawn (Opening c) new back may is = absurd may
  ends_withdrawn (Checkpointing k b) new back may is = absurd may
  ends_withdrawn (Writing w) new back may is = absurd may
  ends_withdrawn (Publishing j w) new back may is = absurd may
  ends_withdrawn (Failed d f) new back may is = absurd may
