-- The number of turns of the flusher that are left until all waiting commands are acknowledged.
use Rattle.std.proofs.Common.{◌≡◌, ◌≤◌, ℕ, ◌+◌, ◌-◌, ◌*◌, nat_lt, Bool, true}
use Rattle.std.proofs.Common.{false, if◌then◌else◌, List, length, length-append, Option, Some, None, ap, sym, ◌∙◌, subst, arith}
use Rattle.std.proofs.Math.Nat.{mul-le-mul_left, mul-add, add-mul, le-mul_of_pos_right}
use Rattle.iol_types.specs.Command.{CommandValue}
use Rattle.iol_core.specs.Core.{CoreView}
use Rattle.iol_flush.specs.Stages.{HasFewCalls, most_batch_calls, most_checkpoint_calls}
use Rattle.iol_flush.specs.Turns.{calls_again, calls_needed, freeing_calls, given_calls, most_freeing_calls, opening_calls}
use Rattle.iol_flush.specs.declared.stage.FlushStage.{FlushStage}
use Rattle.iol_flush.specs.declared.stage.FlushStage.TheVariants.{Resting, Opening, Given, Checkpointing, Writing, Publishing, Failed}
use Rattle.iol_front.specs.Fronts.{CommittedView}
use Rattle.iol_journal.specs.Begin.{wants_checkpoint}
use Rattle.iol_journal.specs.BegunViews.{BegunView}
use Rattle.iol_journal.specs.CheckpointViews.{CheckpointingView, end_of, stages_left}
use Rattle.iol_journal.specs.Body.{values}
use Rattle.iol_journal.specs.Journals.{JournalView}
use Rattle.iol_journal.specs.Layout.{Layout, is_renewed, renewed}
use Rattle.iol_journal.specs.Sectors.{BODY_SECTORS}
use Rattle.iol_run.specs.CoreOnDisk.{IsInFlight, HasFlight, IsAtRest}
use Rattle.iol_run.specs.Flushed.{batch_turns}

-- what is in flight is with the flusher, or is published and still to be acknowledged
abbrev pub HasBatch : {D : Type 0} → CoreView → FlushStage D → Option CommittedView → Type 0
HasBatch core stage None = HasFlight core stage
HasBatch core stage (Some committed) = IsInFlight core committed.commands × IsAtRest stage

-- the journal has this layout, once it is renewed
abbrev pub HasLayout : {D : Type 0} → Layout → FlushStage D → Type 0
HasLayout layout (Resting journal) = renewed journal.standing.layout ≡ layout
HasLayout layout (Opening checkpoint) = renewed checkpoint.standing.layout ≡ layout
HasLayout layout (Given journal batch) = renewed journal.standing.layout ≡ layout
HasLayout layout (Checkpointing checkpoint batch) = renewed checkpoint.standing.layout ≡ layout
HasLayout layout (Writing writing) = renewed writing.standing.layout ≡ layout
HasLayout layout (Publishing journal written) = renewed journal.standing.layout ≡ layout
HasLayout layout (Failed disk fault) = Unit {0}

-- a batch is taken, written and published in the layout that is written
abbrev pub IsNewest : {D : Type 0} → FlushStage D → Option CommittedView → Type 0
IsNewest (Resting journal) None = Unit {0}
IsNewest (Resting journal) (Some committed) = is_renewed journal.standing.layout ≡ true
IsNewest (Given journal batch) committed = is_renewed journal.standing.layout ≡ true
IsNewest (Writing writing) committed = is_renewed writing.standing.layout ≡ true
IsNewest (Publishing journal written) committed = is_renewed journal.standing.layout ≡ true
IsNewest (Opening checkpoint) committed = Unit {0}
IsNewest (Checkpointing checkpoint batch) committed = Unit {0}
IsNewest (Failed disk fault) committed = Unit {0}

-- turns that count if some commands wait
abbrev pub if_some : ℕ → ℕ → ℕ
if_some waits turns = if nat_lt 0 waits then turns else 0

-- the turns of the batch that is with the flusher: its calls, and its acknowledgement. If it has none but some commands wait,
-- a checkpoint that cannot be paused makes its calls before one is taken
abbrev pub own_turns : {D : Type 0} → ℕ → FlushStage D → Option CommittedView → ℕ
own_turns waits stage (Some committed) = 1
own_turns waits (Resting journal) None = if_some waits (opening_calls (Resting journal))
own_turns waits (Opening checkpoint) None = if_some waits (opening_calls (Opening checkpoint))
own_turns waits (Given journal batch) None = calls_needed (Given journal batch) + 1
own_turns waits (Checkpointing checkpoint batch) None = calls_needed (Checkpointing checkpoint batch) + 1
own_turns waits (Writing writing) None = calls_needed (Writing writing) + 1
own_turns waits (Publishing journal written) None = 2
own_turns waits (Failed disk fault) None = 0

-- the turns of the commands after the batch in flight, each in a batch of its own
abbrev pub turns_after : Layout → CoreView → ℕ
turns_after layout core = batch_turns layout * (length core.queue - core.flight)

abbrev pub turns_left : {D : Type 0} → Layout → CoreView → FlushStage D → Option CommittedView → ℕ
turns_left layout core stage committed = own_turns (length core.queue) stage committed + turns_after layout core

-- ---- sums of turns, as numbers: the turns of a batch are not unfolded in them
or_more : (turns all more : ℕ) → turns ≤ all → turns ≤ all + more
or_more turns all more le = omega (arith, le)

both_within : (own more turns all : ℕ) → own ≤ more → turns ≤ all → own + turns ≤ all + more
both_within own more turns all few le = omega (arith, few, le)

if_within : (some : Bool) (turns most : ℕ) → turns ≤ most → (if some then turns else 0) ≤ most
if_within true turns most le = le
if_within false turns most le = omega arith

but_if_within : (newest : Bool) (turns : ℕ) → (if newest then 0 else turns) ≤ turns
but_if_within true turns = omega arith
but_if_within false turns = omega arith

add_within : (turns most more : ℕ) → turns ≤ most → turns + more ≤ most + more
add_within turns most more le = omega (arith, le)

one_less : (turns most : ℕ) → turns + 1 ≤ most → turns ≤ most
one_less turns most le = omega (arith, le)

-- the turns of a batch of `n` commands are no more than those of `n` batches
within_each : (most n : ℕ) → 1 ≤ n → BODY_SECTORS * n + 8 + most ≤ (24 + most) * n
within_each most n some =
    subst (λ (all : ℕ). BODY_SECTORS * n + 8 + most ≤ all) (sym (add-mul 24 most n)) (omega (arith, some, le-mul_of_pos_right most some))

given_within : (most freeing n : ℕ) (full : Bool) → freeing ≤ most + 1 → 1 ≤ n
    → BODY_SECTORS * n + 3 + 2 + (if full then freeing else 0) + 1 + 1 ≤ (24 + most) * n
given_within most freeing n true le some = omega (arith, le, within_each most n some)
given_within most freeing n false le some = omega (arith, within_each most n some)

-- slots are freed by two checkpoints at most
freeing_within : (layout : Layout) (begun : Option BegunView) → freeing_calls layout begun ≤ most_freeing_calls layout + 1
freeing_within layout None = omega arith
freeing_within layout (Some b) = omega arith

again_within : {D : Type 0} (c : CheckpointingView D) → calls_again c ≤ most_checkpoint_calls (renewed c.standing.layout) + 1
again_within c = either (nat_lt 0 (end_of c).used)
  where
    either : (used : Bool) → (if used then most_checkpoint_calls (renewed c.standing.layout) + 1 else 0)
        ≤ most_checkpoint_calls (renewed c.standing.layout) + 1
    either true = omega arith
    either false = omega arith

calls_within : (calls most n : ℕ) → 1 ≤ n → calls ≤ most → BODY_SECTORS * n + 3 + 2 + calls + 1 ≤ (24 + most) * n
calls_within calls most n some le = omega (arith, le, within_each most n some)

written_within : (calls most n : ℕ) → 1 ≤ n → calls ≤ BODY_SECTORS * n + 3 → 1 + calls + 1 ≤ (24 + most) * n
written_within calls most n some le = omega (arith, le, within_each most n some)

few_within : (turns most n : ℕ) → 1 ≤ n → turns ≤ 2 → turns ≤ (24 + most) * n
few_within turns most n some le = omega (arith, le, within_each most n some)

-- the turns of a batch, and of the commands after it, are at most those of all waiting commands
pub fewer_after : (each waits flies own : ℕ) → own ≤ each * flies → flies ≤ waits → own + each * (waits - flies) ≤ each * waits
fewer_after each waits flies own most within =
    subst (λ (n : ℕ). own + each * (waits - flies) ≤ n) (sym parted) (add_within own (each * flies) (each * (waits - flies)) most)
  where
    parted : each * waits ≡ each * flies + each * (waits - flies)
    parted = ap (λ (n : ℕ). each * n) (parts waits flies within) ∙ mul-add each flies (waits - flies)
      where
        parts : (n m : ℕ) → m ≤ n → n ≡ m + (n - m)
        parts n m le = omega (arith, le)

-- a batch that was given, with its acknowledgement, needs one turn less than one that is still to be taken
pub given_turns : (layout : Layout) (commands : List CommandValue) (begun : Option BegunView) (full : Bool) → 1 ≤ length commands
    → given_calls layout commands begun full + 1 + 1 ≤ batch_turns layout * length commands
given_turns layout commands begun full some =
    given_within (most_freeing_calls layout) (freeing_calls layout begun) (length commands) full (freeing_within layout begun) some

-- what is in flight is one command or more of those that wait
pub flies_within : (core : CoreView) (commands : List CommandValue) → IsInFlight core commands → (1 ≤ core.flight)
    × (core.flight ≤ length core.queue)
flies_within core commands is =
    (omega (arith, is.flight, is.some), omega (arith, is.flight, ap length is.queue, length-append commands is.behind))

module _ (layout : Layout) where
  after_within : (core : CoreView) → turns_after layout core ≤ batch_turns layout * length core.queue
  after_within core = mul-le-mul_left (batch_turns layout) (less (length core.queue) core.flight)
    where
      less : (n m : ℕ) → n - m ≤ n
      less n m = omega arith

  -- the turns that are left are at most those of each waiting command in a batch of its own, and those of a checkpoint
  abbrev pub IsWithin : CoreView → ℕ → Type 0
  IsWithin core own = own + turns_after layout core ≤ batch_turns layout * length core.queue + (most_checkpoint_calls layout + 1)

  opening_with : (core : CoreView) (own : ℕ) → own ≤ most_checkpoint_calls layout + 1 → IsWithin core own
  opening_with core own few =
      both_within own (most_checkpoint_calls layout + 1) (turns_after layout core) (batch_turns layout * length core.queue) few
      (after_within core)

  one_with : (core : CoreView) (commands : List CommandValue) (own : ℕ) → IsInFlight core commands
      → own ≤ batch_turns layout * length commands → IsWithin core own
  one_with core commands own is most =
      or_more (own + turns_after layout core) (batch_turns layout * length core.queue) (most_checkpoint_calls layout + 1)
      (fewer_after (batch_turns layout) (length core.queue) core.flight own
      (subst (λ (n : ℕ). own ≤ batch_turns layout * n) (sym is.flight) most) (flies_within core commands is).1)

module _ {D : Type 0} (layout : Layout) where
  -- a checkpoint that comes before all batches has few turns
  renews_within : (waits : ℕ) (j : JournalView D) → renewed j.standing.layout ≡ layout
      → if_some waits (opening_calls (Resting j)) ≤ most_checkpoint_calls layout + 1
  renews_within waits j same =
      if_within (nat_lt 0 waits) (opening_calls (Resting j)) (most_checkpoint_calls layout + 1)
      (subst (λ (l : Layout). opening_calls (Resting j) ≤ most_checkpoint_calls l + 1) same
      (but_if_within (is_renewed j.standing.layout) (most_checkpoint_calls (renewed j.standing.layout) + 1)))

  opens_within : (waits : ℕ) (c : CheckpointingView D) → renewed c.standing.layout ≡ layout → HasFewCalls (Opening c)
      → if_some waits (opening_calls (Opening c)) ≤ most_checkpoint_calls layout + 1
  opens_within waits c same few =
      if_within (nat_lt 0 waits) (length (stages_left c)) (most_checkpoint_calls layout + 1)
      (or_more (length (stages_left c)) (most_checkpoint_calls layout) 1
      (subst (λ (l : Layout). length (stages_left c) ≤ most_checkpoint_calls l) same few))

  pub most_left : (core : CoreView) (stage : FlushStage D) (committed : Option CommittedView) → HasBatch core stage committed
      → HasLayout layout stage → HasFewCalls stage → IsWithin layout core (own_turns (length core.queue) stage committed)
  most_left core stage (Some committed) batch same few =
      one_with layout core committed.commands 1 batch.0
      (few_within 1 (most_freeing_calls layout) (length committed.commands) batch.0.some (omega arith))
  most_left core (Opening c) None batch same few = opening_with layout core _ (opens_within (length core.queue) c same few)
  most_left core (Resting j) None batch same few = opening_with layout core _ (renews_within (length core.queue) j same)
  most_left core (Given j b) None batch same few =
      one_with layout core commands _ batch (given_most (wants_checkpoint j.standing commands))
    where
      commands : List CommandValue
      commands = values b.commands.items

      given_most : (full : Bool) → given_calls (renewed j.standing.layout) commands j.begun full + 1 ≤ batch_turns layout * length commands
      given_most full =
          subst (λ (l : Layout). given_calls l commands j.begun full + 1 ≤ batch_turns layout * length commands) (sym same)
          (one_less (given_calls layout commands j.begun full + 1) (batch_turns layout * length commands)
          (given_turns layout commands j.begun full batch.some))
  most_left core (Checkpointing c b) None batch same few = one_with layout core commands _ batch (few_most few.1)
    where
      commands : List CommandValue
      commands = values b.commands.items

      few_most : length (stages_left c) ≤ most_checkpoint_calls (renewed c.standing.layout)
          → most_batch_calls commands + 2 + length (stages_left c) + calls_again c + 1 ≤ batch_turns layout * length commands
      few_most le =
          let both : length (stages_left c) + calls_again c ≤ most_freeing_calls layout =
          subst (λ (l : Layout). length (stages_left c) + calls_again c ≤ most_freeing_calls l) same (omega (arith, le, again_within c)) in
          let sum : most_batch_calls commands + 2 + length (stages_left c) + calls_again c ≡ most_batch_calls commands + 2
          + (length (stages_left c) + calls_again c) = omega arith in
          rw sum (calls_within (length (stages_left c) + calls_again c) (most_freeing_calls layout) (length commands) batch.some both)
  most_left core (Writing w) None batch same few =
      one_with layout core w.commands _ batch
      (written_within _ (most_freeing_calls layout) (length w.commands) batch.some few)
  most_left core (Publishing j written) None batch same few =
      one_with layout core written.commands 2 batch
      (few_within 2 (most_freeing_calls layout) (length written.commands) batch.some (omega arith))
  most_left core (Failed d f) None batch same few = opening_with layout core 0 (omega arith)
