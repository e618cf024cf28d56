-- The turns of the batch with the flusher after each disk call, and those of a checkpoint for which no batch waits.
use Rattle.std.proofs.Common.{◌≡◌, refl, ◌≤◌, inl, inr, ℕ, ◌+◌, ◌&&◌, nat_lt, Bool, true, false, if◌then◌else◌, length, None, Some}
use Rattle.std.proofs.Common.{ap, ◌∙◌, subst, arith, rules}
use Rattle.std.proofs.lemmas.Bool.Decides.{nat_tests}
use Rattle.iol_flush.specs.Stages.{HasFewCalls, calls_owed, most_checkpoint_calls, need_of}
use Rattle.iol_flush.specs.Steps.{HasAdvanced, HasBegun, HasMadeOfBatch, HasMadeOfCheckpoint}
use Rattle.iol_flush.specs.Turns.{calls_needed}
use Rattle.iol_flush.specs.declared.need.Need.TheVariants as need
use Rattle.iol_flush.specs.declared.stage.FlushStage.{FlushStage}
use Rattle.iol_flush.specs.declared.stage.FlushStage.TheVariants.{Resting, Opening, Given, Checkpointing, Writing, Publishing, Failed}
use Rattle.iol_front.specs.Fronts.{CommittedView}
use Rattle.iol_journal.proofs.Layouts.{renewed-renewed}
use Rattle.iol_journal.specs.declared.batch.Batch.{Batch}
use Rattle.iol_journal.specs.Body.{values}
use Rattle.iol_journal.specs.CheckpointViews.{CheckpointingView, checkpoint_of, stages_left}
use Rattle.iol_journal.specs.Drafts.{can_pause}
use Rattle.iol_journal.specs.Journals.{JournalView, WritingView, writing_of}
use Rattle.iol_journal.specs.Layout.{is_renewed, renewed}
use Rattle.iol_journal.specs.Meaning.{Standing}
use Rattle.iol_run.proofs.Served.{rests_newest}
use Rattle.iol_run.proofs.TurnsLeft.{IsNewest, if_some, own_turns}
use Rattle.iol_run.specs.CoreOnDisk.{IsAtRest}
use Rattle.iol_run.specs.Turns.{need_met}

-- turns of a checkpoint count if something waits
pub some_count : (waits turns : ℕ) (some : Bool) → nat_lt 0 waits ≡ some → 1 ≤ waits → (if some then turns else 0) ≡ turns
some_count waits turns true is le = refl
some_count waits turns false is le = let none : waits ≡ 0 = grind (arith, nat_tests, is) in absurd (omega (arith, none, le))

pub none_count : (some : Bool) → ◌≡◌ {A = ℕ} (if some then 0 else 0) 0
none_count true = refl
none_count false = refl

module _ {D : Type 0} where
  -- a flusher at rest whose journal has the layout that is written has no turns of its own
  pub newest_own : (waits : ℕ) (j : JournalView D) → is_renewed j.standing.layout ≡ true → own_turns waits (Resting j) None ≡ 0
  newest_own waits j newest =
      ap (λ (is : Bool). if_some waits (if is then 0 else most_checkpoint_calls (renewed j.standing.layout) + 1)) newest
      ∙ none_count (nat_lt 0 waits)

  pub rests_own : (waits : ℕ) (stage : FlushStage D) (committed : CommittedView) → IsAtRest stage → IsNewest stage (Some committed)
      → own_turns waits stage None ≡ 0
  rests_own waits (Resting j) committed at newest = newest_own waits j newest
  rests_own waits (Opening c) committed at newest = absurd at
  rests_own waits (Given j b) committed at newest = absurd at
  rests_own waits (Checkpointing c b) committed at newest = absurd at
  rests_own waits (Writing w) committed at newest = absurd at
  rests_own waits (Publishing j written) committed at newest = absurd at
  rests_own waits (Failed d f) committed at newest = absurd at

  -- a flusher that needs a batch has no turns of its own
  pub takes_own : (waits : ℕ) (stage : FlushStage D) (there : Bool) → need_met (need_of stage) there ≡ need.Batch
      → own_turns waits stage None ≡ 0
  takes_own waits (Resting j) there met = newest_own waits j (rests_newest j there met)
  takes_own waits (Opening c) there met = search rules
  takes_own waits (Given j b) there met = search rules
  takes_own waits (Checkpointing c b) there met = search rules
  takes_own waits (Writing w) there met = search rules
  takes_own waits (Publishing j written) there met = search rules
  takes_own waits (Failed d f) there met = search rules

  -- after a disk call of a batch its turns are its calls and the acknowledgement
  abbrev IsCounted : ℕ → FlushStage D → Type 0
  IsCounted waits stage = own_turns waits stage None ≤ calls_needed stage + 1

  pub written_own : (waits : ℕ) (w : WritingView D) (stage : FlushStage D) → HasMadeOfBatch w stage → IsCounted waits stage
  written_own waits w (Writing v) has = omega arith
  written_own waits w (Publishing j written) has = omega arith
  written_own waits w (Resting j) has = absurd has
  written_own waits w (Opening c) has = absurd has
  written_own waits w (Given j b) has = absurd has
  written_own waits w (Checkpointing c b) has = absurd has
  written_own waits w (Failed d f) has = absurd has

  pub freed_own : (waits : ℕ) (c : CheckpointingView D) (batch : Batch) (stage : FlushStage D) → HasMadeOfCheckpoint c batch stage
      → IsCounted waits stage
  freed_own waits c batch (Checkpointing d kept) has = omega arith
  freed_own waits c batch (Given j kept) has = omega arith
  freed_own waits c batch (Resting j) has = absurd has
  freed_own waits c batch (Opening d) has = absurd has
  freed_own waits c batch (Writing w) has = absurd has
  freed_own waits c batch (Publishing j written) has = absurd has
  freed_own waits c batch (Failed d f) has = absurd has

  pub begun_own : (waits : ℕ) (full : Bool) (j : JournalView D) (batch : Batch) (stage : FlushStage D) → HasBegun full j batch stage
      → IsCounted waits stage
  begun_own waits true j batch stage has = freed_own waits (checkpoint_of j) batch stage has.1
  begun_own waits false j batch stage has = written_own waits (writing_of j (values batch.commands.items)) stage has.1

  -- while nothing waits, a checkpoint for which no batch waits counts no turns
  pub advanced_own : (c : CheckpointingView D) (stage : FlushStage D) → HasAdvanced c stage → own_turns 0 stage None ≡ 0
  advanced_own c (Resting j) has = refl
  advanced_own c (Opening d) has = refl
  advanced_own c (Given j b) has = absurd has
  advanced_own c (Checkpointing d b) has = absurd has
  advanced_own c (Writing w) has = absurd has
  advanced_own c (Publishing j written) has = absurd has
  advanced_own c (Failed d f) has = absurd has

  -- if a checkpoint is done or paused, the journal has the layout that is written
  advanced_newest : (c : CheckpointingView D) (j : JournalView D) → HasAdvanced c (Resting j) → is_renewed j.standing.layout ≡ true
  advanced_newest c j (inl done) = ap is_renewed done.layout ∙ renewed-renewed c.standing.layout
  advanced_newest c j (inr (more, moved, may, has)) =
      ap (λ (k : JournalView D). is_renewed k.standing.layout) has
      ∙ first (is_renewed more.standing.layout) (can_pause more.begun.stage) may
    where
      first : (newest other : Bool) → (newest && other) ≡ true → newest ≡ true
      first true other both = refl
      first false other both = both

  -- a call of a checkpoint that cannot be paused leaves fewer turns, however few were left
  pub advanced_less : (waits most : ℕ) (c : CheckpointingView D) (stage : FlushStage D) → HasAdvanced c stage
      → length (calls_owed stage) + 1 ≤ most → own_turns waits stage None + 1 ≤ most
  advanced_less waits most c (Resting j) has le = omega (arith, newest_own waits j (advanced_newest c j has), le)
  advanced_less waits most c (Opening d) has le = either (nat_lt 0 waits)
    where
      either : (some : Bool) → (if some then length (stages_left d) else 0) + 1 ≤ most
      either true = le
      either false = omega (arith, le)
  advanced_less waits most c (Given j b) has le = absurd has
  advanced_less waits most c (Checkpointing d b) has le = absurd has
  advanced_less waits most c (Writing w) has le = absurd has
  advanced_less waits most c (Publishing j written) has le = absurd has
  advanced_less waits most c (Failed d f) has le = absurd has

  -- the first call of a checkpoint leaves fewer than one may have at most
  pub first_less : (waits : ℕ) (c : CheckpointingView D) (stage : FlushStage D) → HasAdvanced c stage → HasFewCalls stage
      → own_turns waits stage None + 1 ≤ most_checkpoint_calls (renewed c.standing.layout) + 1
  first_less waits c (Resting j) has few = omega (arith, newest_own waits j (advanced_newest c j has))
  first_less waits c (Opening d) has few =
      advanced_less waits (most_checkpoint_calls (renewed c.standing.layout) + 1) c (Opening d) has
      (one_more (length (stages_left d)) (most_checkpoint_calls (renewed c.standing.layout))
      (subst (λ (s : Standing). length (stages_left d) ≤ most_checkpoint_calls (renewed s.layout)) has.standing few))
    where
      one_more : (turns most : ℕ) → turns ≤ most → turns + 1 ≤ most + 1
      one_more turns most le = omega (arith, le)
  first_less waits c (Given j b) has few = absurd has
  first_less waits c (Checkpointing d b) has few = absurd has
  first_less waits c (Writing w) has few = absurd has
  first_less waits c (Publishing j written) has few = absurd has
  first_less waits c (Failed d f) has few = absurd has
