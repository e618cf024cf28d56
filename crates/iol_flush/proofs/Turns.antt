-- Each disk call leaves fewer calls to make, and a batch of the queue is never refused as too large or
-- as not following the journal.
use Rattle.std.proofs.Common.{◌≡◌, ◌≤◌, ◌⊎◌, inl, inr, ◌+◌, ◌-◌, ◌*◌, ◌||◌, ℕ, Bool, true, false, if◌then◌else◌, nat_lt, List, [], length}
use Rattle.std.proofs.Common.{Option, Some, None, Result, Ok, Err, refl, sym, ◌∙◌, ap, subst, arith, rules}
use Rattle.std.proofs.lemmas.Bool.Decides.{nat_tests}
use Rattle.iol_disk.specs.Calls.{Call, MakesFirst}
use Rattle.iol_disk.specs.Disk.{Disk}
use Rattle.iol_journal.specs.Batches.{batch_calls}
use Rattle.iol_journal.specs.Begin.{is_too_large, fits_no_area, wants_checkpoint, follows}
use Rattle.iol_journal.specs.Body.{slots_for, values}
use Rattle.iol_journal.specs.BegunViews.{BegunView}
use Rattle.iol_journal.specs.CheckpointViews.{CheckpointingView, begun_in, end_of, stages_left, checkpoint_of}
use Rattle.iol_journal.specs.Pauses.{calls_of}
use Rattle.iol_journal.specs.Checkpoints.{checkpointed, first_stage, stage_calls}
use Rattle.iol_journal.specs.Layout.{Layout, is_renewed, renewed}
use Rattle.iol_journal.specs.Standings.{free_slots}
use Rattle.iol_journal.proofs.Layouts.{renewed-same, renewed-renewed, renewed-twice}
use Rattle.iol_journal.specs.Journals.{JournalView, WritingView, calls_left, writing_of}
use Rattle.iol_journal.specs.Meaning.{Standing}
use Rattle.iol_journal.specs.declared.batch.Batch.{Batch}
use Rattle.iol_types.specs.Command.{CommandValue}
use Rattle.iol_types.specs.State.{State}
use Rattle.iol_journal.specs.Idle.{Idle}
use Rattle.iol_journal.specs.Idle.TheVariants.{Older, Closed}
use Rattle.iol_journal.specs.declared.refusal.BeginCause.{BeginCause}
use Rattle.iol_journal.specs.declared.refusal.BeginCause.TheVariants.{TooLarge, NeedsCheckpoint, Misfit}
use Rattle.iol_disk.specs.declared.fault.DiskFault.{DiskFault}
use Rattle.iol_flush.specs.Flushing.{FitsBatch, GoesOn}
use Rattle.iol_flush.specs.Stages.{failure_of, disk_of, calls_owed, HasFewCalls, most_batch_calls, most_checkpoint_calls}
use Rattle.iol_flush.specs.Steps.{HasAdvanced, HasMadeOfBatch, HasMadeOfCheckpoint, HasBegun, HasMade, IsDiskStep, IsUnfit}
use Rattle.iol_flush.specs.Turns.{freeing_calls, given_calls, calls_again, calls_needed}
use Rattle.iol_flush.specs.declared.fault.FlushFault.{FlushFault}
use Rattle.iol_flush.specs.declared.fault.FlushFault.TheVariants as fault
use Rattle.iol_flush.specs.declared.stage.FlushStage.{FlushStage}
use Rattle.iol_flush.specs.declared.stage.FlushStage.TheVariants.{Resting, Opening, Given, Checkpointing, Writing, Publishing, Failed}

-- one call fewer is needed
pub one_less : (calls left : List Call) (old new : Disk) → MakesFirst calls left old new (Ok tt) → length calls ≡ length left + 1
one_less calls left old new made = ap length made.order ∙ omega arith

-- a batch that fits an area finds enough free slots if no slot is used
finds_room : (s : Standing) (commands : List CommandValue) → is_renewed s.layout ≡ true → fits_no_area s commands ≡ false → s.used ≡ 0
    → wants_checkpoint s commands ≡ false
finds_room s commands newest small none =
    let small_now : is_too_large s.layout.slots commands ≡ false =
    ap (λ (l : Layout). is_too_large l.slots commands) (sym (renewed-same s.layout newest)) ∙ small in
    let free : free_slots s ≡ s.layout.slots =
    ap (λ (test : Bool). if test then s.layout.slots - s.used else 0) newest ∙ omega (arith, none) in
    ap (λ (n : ℕ). nat_lt n (slots_for commands)) free
    ∙ second (nat_lt 64 (length commands)) (nat_lt s.layout.slots (slots_for commands)) small_now
  where
    second : (many long : Bool) → (many || long) ≡ false → long ≡ false
    second true long small = absurd cc
    second false long small = small

-- the layout after a checkpoint, which renews it
same_layout : (was now : Layout) → now ≡ renewed was → renewed now ≡ renewed was
same_layout was now is = ap renewed is ∙ renewed-twice was

-- a new checkpoint has at least two disk calls
two_calls : {D : Type 0} (j : JournalView D) → j.begun ≡ None → 2 ≤ length (calls_of j.standing (begun_in j))
two_calls j none = rw none (of j.standing j.idle)
  where
    of : (s : Standing) (idle : Idle) → 2 ≤ length (stage_calls (checkpointed s) [] (first_stage idle))
    of s Older = omega arith
    of s Closed = omega arith

module _ {D : Type 0} (disk : D → Disk) where
  written_needs : (w : WritingView D) (new : FlushStage D) (n : ℕ) → HasMadeOfBatch w new → length (calls_owed new) + 1 ≤ n
      → calls_needed new + 1
      ≤ 1 + n
  written_needs w (Writing v) n has le = omega (arith, le)
  written_needs w (Publishing j written) n has le = omega (arith, le)
  written_needs w (Resting j) n has le = absurd has
  written_needs w (Opening c) n has le = absurd has
  written_needs w (Given j b) n has le = absurd has
  written_needs w (Checkpointing c b) n has le = absurd has
  written_needs w (Failed d f) n has le = absurd has

  -- a checkpoint that ends with slots used may be followed by another one
  given_again : (c : CheckpointingView D) (commands : List CommandValue) (s : Standing) (used : Bool)
      → fits_no_area c.standing commands ≡ false → s ≡ end_of c → s.layout ≡ renewed c.standing.layout
      → nat_lt 0 (end_of c).used ≡ used
      → given_calls (renewed s.layout) commands None (wants_checkpoint s commands)
      ≤ most_batch_calls commands + 2 + (if used then most_checkpoint_calls (renewed c.standing.layout) + 1 else 0)
  given_again c commands s true small same layout again =
      subst (λ (l : Layout). given_calls l commands None (wants_checkpoint s commands)
      ≤ most_batch_calls commands + 2 + (most_checkpoint_calls (renewed c.standing.layout) + 1))
      (sym (same_layout c.standing.layout s.layout layout))
      (either (wants_checkpoint s commands))
    where
      either : (full : Bool) → given_calls (renewed c.standing.layout) commands None full
          ≤ most_batch_calls commands + 2 + (most_checkpoint_calls (renewed c.standing.layout) + 1)
      either true = omega arith
      either false = omega arith
  given_again c commands s false small same layout again =
      let none : s.used ≡ 0 = grind (arith, nat_tests, again, ap (λ (t : Standing). t.used) same) in
      let free : wants_checkpoint s commands ≡ false =
      finds_room s commands (ap is_renewed layout ∙ renewed-renewed c.standing.layout)
      (ap (λ (l : Layout). is_too_large l.slots commands) (same_layout c.standing.layout s.layout layout) ∙ small) none in
      rw free (omega arith)

  checkpointed_needs : (c : CheckpointingView D) (batch : Batch) (new : FlushStage D) (n : ℕ)
      → fits_no_area c.standing (values batch.commands.items) ≡ false
      → HasMadeOfCheckpoint c batch new
      → length (calls_owed new) + 1 ≤ n → calls_needed new + 1 ≤ most_batch_calls (values batch.commands.items) + 2 + n + calls_again c
  checkpointed_needs c batch (Checkpointing d kept) n small has le =
      omega (arith, le, ap (λ (b : Batch). most_batch_calls (values b.commands.items)) has.1, same_again)
    where
      same_again : calls_again d ≡ calls_again c
      same_again =
          ap (λ (s : Standing). if nat_lt 0 s.used then most_checkpoint_calls (renewed d.standing.layout) + 1 else 0) has.0.end
          ∙ ap (λ (s : Standing). if nat_lt 0 (end_of c).used then most_checkpoint_calls (renewed s.layout) + 1 else 0) has.0.standing
  checkpointed_needs c batch (Given j kept) n small has le =
      let commands = values batch.commands.items in
      let again = given_again c commands j.standing (nat_lt 0 (end_of c).used) small has.0.standing has.0.layout refl in
      subst (λ (begun : Option BegunView). given_calls (renewed j.standing.layout) (values kept.commands.items) begun
      (wants_checkpoint j.standing (values kept.commands.items)) + 1 ≤ most_batch_calls commands + 2 + n + calls_again c) (sym has.0.none)
      (subst (λ (b : Batch). given_calls (renewed j.standing.layout) (values b.commands.items) None
      (wants_checkpoint j.standing (values b.commands.items)) + 1 ≤ most_batch_calls commands + 2 + n + calls_again c) (sym has.1)
      (omega (arith, le, again)))
  checkpointed_needs c batch (Resting j) n small has le = absurd has
  checkpointed_needs c batch (Opening d) n small has le = absurd has
  checkpointed_needs c batch (Writing w) n small has le = absurd has
  checkpointed_needs c batch (Publishing j written) n small has le = absurd has
  checkpointed_needs c batch (Failed d f) n small has le = absurd has

  -- a new checkpoint carries no batch, so no other checkpoint follows it
  again_in : (j : JournalView D) (begun : Option BegunView) → j.begun ≡ begun
      → most_checkpoint_calls (renewed j.standing.layout) + calls_again (checkpoint_of j) + 1
      ≤ freeing_calls (renewed j.standing.layout) begun
  again_in j None none = rw none (omega arith)
  again_in j (Some b) some = either (nat_lt 0 (end_of (checkpoint_of j)).used)
    where
      either : (used : Bool) → most_checkpoint_calls (renewed j.standing.layout) +
          (if used then most_checkpoint_calls (renewed j.standing.layout) + 1 else 0) + 1
          ≤ 2 * (most_checkpoint_calls (renewed j.standing.layout) + 1)
      either true = omega arith
      either false = omega arith

  begun_needs : (full : Bool) (j : JournalView D) (batch : Batch) (new : FlushStage D) (old next : Disk) → HasBegun full j batch new
      → HasFewCalls new
      → MakesFirst (if full then calls_of j.standing (begun_in j) else batch_calls j.standing (values batch.commands.items))
      (calls_owed new) old next (Ok tt)
      → calls_needed new + 1 ≤ given_calls (renewed j.standing.layout) (values batch.commands.items) j.begun full
  begun_needs true j batch (Checkpointing c kept) old next has few made =
      omega (
        arith,
        few.1,
        ap (λ (b : Batch). most_batch_calls (values b.commands.items)) has.1.1,
        ap (λ (s : Standing). most_checkpoint_calls (renewed s.layout)) has.1.0.standing,
        again_in j j.begun refl,
        same_again,
      )
    where
      same_again : calls_again c ≡ calls_again (checkpoint_of j)
      same_again =
          ap (λ (s : Standing). if nat_lt 0 s.used then most_checkpoint_calls (renewed c.standing.layout) + 1 else 0) has.1.0.end
          ∙ ap (λ (s : Standing). if nat_lt 0 (end_of (checkpoint_of j)).used then most_checkpoint_calls (renewed s.layout) + 1 else 0)
          has.1.0.standing
  begun_needs true j batch (Given k kept) old next has few made = by_begun j.begun refl
    where
      by_begun : (begun : Option BegunView) → j.begun ≡ begun
          → calls_needed (Given k kept) + 1 ≤ given_calls (renewed j.standing.layout) (values batch.commands.items) begun true
      by_begun None none =
          absurd (omega (arith, two_calls j none, one_less (calls_of j.standing (begun_in j)) [] old next made))
      by_begun (Some b) some =
          subst (λ (begun : Option BegunView). given_calls (renewed k.standing.layout) (values kept.commands.items) begun
          (wants_checkpoint k.standing (values kept.commands.items)) + 1
          ≤ given_calls (renewed j.standing.layout) (values batch.commands.items) (Some b) true) (sym has.1.0.none)
          (subst (λ (l : Layout). given_calls l (values kept.commands.items) None
          (wants_checkpoint k.standing (values kept.commands.items)) + 1
          ≤ given_calls (renewed j.standing.layout) (values batch.commands.items) (Some b) true)
          (sym (same_layout j.standing.layout k.standing.layout has.1.0.layout))
          (subst (λ (kept : Batch). given_calls (renewed j.standing.layout) (values kept.commands.items) None
          (wants_checkpoint k.standing (values kept.commands.items)) + 1
          ≤ given_calls (renewed j.standing.layout) (values batch.commands.items) (Some b) true) (sym has.1.1)
          (either (wants_checkpoint k.standing (values batch.commands.items)))))
        where
          either : (full : Bool) → given_calls (renewed j.standing.layout) (values batch.commands.items) None full + 1
              ≤ given_calls (renewed j.standing.layout) (values batch.commands.items) (Some b) true
          either true = omega arith
          either false = omega arith
  begun_needs true j batch (Resting k) old next has few made = absurd has.1
  begun_needs true j batch (Opening c) old next has few made = absurd has.1
  begun_needs true j batch (Writing w) old next has few made = absurd has.1
  begun_needs true j batch (Publishing k written) old next has few made = absurd has.1
  begun_needs true j batch (Failed d f) old next has few made = absurd has.1
  begun_needs false j batch (Writing w) old next has few made =
      omega (arith, few, ap most_batch_calls has.1.commands)
  begun_needs false j batch (Publishing k written) old next has few made = omega arith
  begun_needs false j batch (Given k kept) old next has few made = absurd has.1
  begun_needs false j batch (Checkpointing c kept) old next has few made = absurd has.1
  begun_needs false j batch (Resting k) old next has few made = absurd has.1
  begun_needs false j batch (Opening c) old next has few made = absurd has.1
  begun_needs false j batch (Failed d f) old next has few made = absurd has.1

  -- a disk call made for a batch leaves at least one call fewer
  pub advances : (old new : FlushStage D) → 1 ≤ calls_needed old → HasFewCalls old → HasFewCalls new → IsDiskStep disk old new (Ok tt)
      → calls_needed new + 1 ≤ calls_needed old
  advances (Given j batch) new some few_old few_new step =
      begun_needs (wants_checkpoint j.standing (values batch.commands.items)) j batch new (disk j.disk) (disk (disk_of new)) step.0 few_new
      step.1
  advances (Checkpointing c batch) new some few_old few_new step =
      checkpointed_needs c batch new (length (stages_left c)) few_old.0 step.0
      (omega (arith, one_less (stages_left c) (calls_owed new) (disk c.disk) (disk (disk_of new)) step.1))
  advances (Writing w) new some few_old few_new step =
      written_needs w new (length (calls_left w)) step.0
      (omega (arith, one_less (calls_left w) (calls_owed new) (disk w.disk) (disk (disk_of new)) step.1))
  advances (Resting j) new some few_old few_new step = absurd (omega (arith, some))
  advances (Opening c) new some few_old few_new step = absurd (omega (arith, some))
  advances (Publishing j written) new some few_old few_new step = absurd step.0
  advances (Failed d f) new some few_old few_new step = absurd step.0

-- why a batch that is not too large and follows the journal is refused
abbrev Refused : Bool → Bool → Bool → Option BeginCause
Refused large full fits = if large then Some TooLarge else if full then Some NeedsCheckpoint else if fits then None else Some Misfit

only_full : (large full fits : Bool) → large ≡ false → fits ≡ true → (Refused large full fits ≡ Some TooLarge)
    ⊎ (Refused large full fits ≡ Some Misfit) → ⊥
only_full true full fits small fit is = search rules
only_full false true fits small fit (inl is) = search rules
only_full false true fits small fit (inr is) = search rules
only_full false false true small fit (inl is) = search rules
only_full false false true small fit (inr is) = search rules
only_full false false false small fit is = search rules

-- a batch that follows the journal and fits an area is not refused as unfit
pub is_fit : {D : Type 0} (stage : FlushStage D) → GoesOn stage → IsUnfit stage → ⊥
is_fit (Given j batch) goes unfit =
    only_full (fits_no_area j.standing (values batch.commands.items))
    (wants_checkpoint j.standing (values batch.commands.items))
    (follows j.standing batch.first (values batch.commands.items))
    goes.small goes.next unfit
is_fit (Resting j) goes unfit = unfit
is_fit (Opening c) goes unfit = unfit
is_fit (Checkpointing c batch) goes unfit = unfit
is_fit (Writing w) goes unfit = unfit
is_fit (Publishing j written) goes unfit = unfit
is_fit (Failed d f) goes unfit = unfit

checkpointed_goes : {D : Type 0} (c : CheckpointingView D) (batch : Batch) (new : FlushStage D) → HasMadeOfCheckpoint c batch new
    → FitsBatch c.standing batch → GoesOn new
checkpointed_goes c batch (Checkpointing d kept) has goes =
    subst (λ (b : Batch). FitsBatch d.standing b) (sym has.1) (subst (λ (s : Standing). FitsBatch s batch) (sym has.0.standing) goes)
checkpointed_goes c batch (Given j kept) has goes =
    subst (λ (b : Batch). FitsBatch j.standing b) (sym has.1) (record {
      small = ap (λ (l : Layout). is_too_large l.slots (values batch.commands.items))
          (same_layout c.standing.layout j.standing.layout has.0.layout) ∙ goes.small;
      next = ap (λ (n : ℕ). follows_at n j.standing.state) has.0.number ∙ ap (follows_at c.standing.number) has.0.state ∙ goes.next;
    })
  where
    -- whether it follows depends only on the number and the state
    follows_at : ℕ → State → Bool
    follows_at n state =
        follows (record {
          layout = j.standing.layout;
          area = j.standing.area;
          epoch = j.standing.epoch;
          used = j.standing.used;
          number = n;
          state = state;
        }) batch.first (values batch.commands.items)
checkpointed_goes c batch (Resting j) has goes = absurd has
checkpointed_goes c batch (Opening d) has goes = absurd has
checkpointed_goes c batch (Writing w) has goes = absurd has
checkpointed_goes c batch (Publishing j written) has goes = absurd has
checkpointed_goes c batch (Failed d f) has goes = absurd has

written_goes : {D : Type 0} (w : WritingView D) (new : FlushStage D) → HasMadeOfBatch w new → GoesOn new
written_goes w (Writing v) has = tt
written_goes w (Publishing j written) has = tt
written_goes w (Resting j) has = tt
written_goes w (Opening c) has = tt
written_goes w (Failed d f) has = tt
written_goes w (Given j b) has = absurd has
written_goes w (Checkpointing c b) has = absurd has

advanced_goes : {D : Type 0} (c : CheckpointingView D) (new : FlushStage D) → HasAdvanced c new → GoesOn new
advanced_goes c (Resting j) has = tt
advanced_goes c (Opening d) has = tt
advanced_goes c (Writing w) has = tt
advanced_goes c (Publishing j written) has = tt
advanced_goes c (Failed d f) has = tt
advanced_goes c (Given j b) has = absurd has
advanced_goes c (Checkpointing d b) has = absurd has

made_goes : {D : Type 0} (old new : FlushStage D) → HasMade old new → GoesOn old → GoesOn new
made_goes (Given j batch) new has goes = begun_goes (wants_checkpoint j.standing (values batch.commands.items)) has
  where
    begun_goes : (full : Bool) → HasBegun full j batch new → GoesOn new
    begun_goes true has = checkpointed_goes (checkpoint_of j) batch new has.1 goes
    begun_goes false has = written_goes (writing_of j (values batch.commands.items)) new has.1
made_goes (Checkpointing c batch) new has goes = checkpointed_goes c batch new has goes
made_goes (Writing w) new has goes = written_goes w new has
made_goes (Resting j) new has goes = advanced_goes (checkpoint_of j) new has.1
made_goes (Opening c) new has goes = advanced_goes c new has
made_goes (Publishing j written) new has goes = absurd has
made_goes (Failed d f) new has goes = absurd has

failed_goes : {D : Type 0} (new : FlushStage D) (cause : DiskFault) → failure_of new ≡ Some cause → GoesOn new
failed_goes (Failed d f) cause is = tt
failed_goes (Resting j) cause is = tt
failed_goes (Opening c) cause is = tt
failed_goes (Writing w) cause is = tt
failed_goes (Publishing j written) cause is = tt
failed_goes (Given j b) cause is = search rules
failed_goes (Checkpointing c b) cause is = search rules

-- after a disk call, a batch that is still to be begun follows the journal
pub goes_on : {D : Type 0} (disk : D → Disk) (old new : FlushStage D) (answer : Result Unit FlushFault) → IsDiskStep disk old new answer
    → GoesOn old → GoesOn new
goes_on disk old new (Ok done) step goes = made_goes old new step.0 goes
goes_on disk old new (Err (fault.Disk cause)) step goes = failed_goes new cause step.0
goes_on {D} disk old new (Err fault.Stopped) step goes = subst (λ (s : FlushStage D). GoesOn s) (sym step.1) goes
goes_on {D} disk old new (Err fault.Memory) step goes = subst (λ (s : FlushStage D). GoesOn s) (sym step.1) goes
goes_on {D} disk old new (Err fault.Misfit) step goes = subst (λ (s : FlushStage D). GoesOn s) (sym step.1) goes
