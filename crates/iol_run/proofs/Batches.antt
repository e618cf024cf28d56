-- A core stays in step with its flusher as a batch is taken, published and acknowledged.
use Rattle.std.proofs.Common.{◌≡◌, refl, ◌≤◌, ◌+◌, ◌&&◌, ◌||◌, ◌==◌, ℕ, nat_lt, nat_le, Bool, true, false, List, ◌++◌, length, take, drop}
use Rattle.std.proofs.Common.{Some, None, ap, sym, ◌∙◌, subst, arith, length-append}
use Rattle.std.proofs.Math.Seq.{take-append_seam, drop-append_seam}
use Rattle.std.proofs.lemmas.Bool.{eq-eqb, le-leb}
use Rattle.std.proofs.lemmas.Bool.Decides.{nat_tests}
use Rattle.std.proofs.lemmas.List.{take-append-drop, length-take-le}
use Rattle.std.proofs.lemmas.List.Sums.{fold-append}
use Rattle.iol_types.specs.Command.{CommandValue}
use Rattle.iol_types.specs.State.{State, apply, after, legal}
use Rattle.iol_disk.specs.Disk.{Disk}
use Rattle.iol_core.specs.Batches.{IsTaken, acknowledged}
use Rattle.iol_core.specs.Batches as batches
use Rattle.iol_core.specs.Core.{CoreView}
use Rattle.iol_flush.proofs.RunLaws.{gives, publishes}
use Rattle.iol_flush.specs.Flushing.{FitsBatch, GoesOn, IsFlushing}
use Rattle.iol_flush.specs.Stages as flush
use Rattle.iol_flush.specs.Stages.{FlusherView, FitsArea}
use Rattle.iol_flush.specs.Steps.{HasTaken, HasPublished}
use Rattle.iol_flush.specs.declared.stage.FlushStage.{FlushStage}
use Rattle.iol_flush.specs.declared.stage.FlushStage.TheVariants.{Resting, Opening, Given, Checkpointing, Writing, Publishing, Failed}
use Rattle.iol_front.specs.Fronts.{Start, CommittedView}
use Rattle.iol_journal.specs.Body.{records_of, slots_of, slots_for, values}
use Rattle.iol_journal.specs.Layout.{renewed}
use Rattle.iol_journal.specs.Meaning.{Standing}
use Rattle.iol_journal.specs.declared.batch.Batch.{Batch}
use Rattle.iol_journal.specs.Numbers.{LAST_NUMBER}
use Rattle.iol_run.specs.CoreOnDisk.{IsInFlight, IsDurable, HasFlight, IsAtRest, IsInStep, KeepsRunning}

-- the batch that a core gives is the first of the waiting commands, and is then in flight
pub taken_flight : (old new : CoreView) (room : ℕ) (batch : Batch) → IsTaken old room new batch
    → IsInFlight new (values batch.commands.items)
taken_flight old new room batch is = record {
  behind = drop new.flight old.queue;
  queue =
      ap (λ (c : CoreView). c.queue) is.others
      ∙ (sym (take-append-drop new.flight old.queue) ∙ ap (λ (cs : List CommandValue). cs ++ drop new.flight old.queue) (sym is.commands));
  flight = sym count;
  some = omega (arith, count, is.some);
}
  where
    count : length (values batch.commands.items) ≡ new.flight
    count = ap length is.commands ∙ length-take-le new.flight old.queue is.longest.within

small : (n slots span : ℕ) → n ≤ 64 → span ≤ slots → (nat_lt 64 n || nat_lt slots span) ≡ false
small n slots span few short = grind (arith, nat_tests, few, short)

all : (a b c d : Bool) → a ≡ true → b ≡ true → c ≡ true → d ≡ true → (a && b && c && d) ≡ true
all true true true true one two three four = refl
all true true true false one two three four = four
all true true false d one two three four = three
all true false c d one two three four = two
all false b c d one two three four = one

-- the batch continues where the journal ends
taken_fits : (start : Start) (published : List CommandValue) (old new : CoreView) (s : Standing) (batch : Batch) (room : ℕ)
    → s.number ≡ start.number + length published → s.state ≡ after start.state published → IsDurable start old published
    → IsTaken old room new batch → ((octets : ℕ) → octets ≤ room → slots_of octets ≤ (renewed s.layout).slots)
    → legal old.durable (values batch.commands.items) ≡ true
    → (length (values batch.commands.items) ≤ 64) × (batch.first + length (values batch.commands.items) ≤ LAST_NUMBER + 1)
    → FitsBatch s batch
taken_fits start published old new s batch room number state durable is has_room passes bound = record {
  small =
      small (length (values batch.commands.items)) (renewed s.layout).slots (slots_for (values batch.commands.items)) bound.0
      (has_room _ (subst (λ (cs : List CommandValue). length (records_of cs) ≤ room) (sym is.commands) is.longest.fits));
  next = all (nat_le 1 count) (batch.first == s.number + 1) (nat_le (s.number + count) LAST_NUMBER)
      (legal s.state (values batch.commands.items))
      (le-leb 1 count (taken_flight old new room batch is).some)
      (eq-eqb batch.first (s.number + 1) here)
      (le-leb (s.number + count) LAST_NUMBER (omega (arith, here, bound.1)))
      (ap (λ (st : State). legal st (values batch.commands.items)) (state ∙ sym durable.state) ∙ passes);
}
  where
    count : ℕ
    count = length (values batch.commands.items)

    here : batch.first ≡ s.number + 1
    here = is.first ∙ ap (λ (n : ℕ). n + 1) (durable.number ∙ sym number)

module _ {D : Type 0} where
  -- a batch of the core is given to a flusher that rests
  pub given_in_step : (start : Start) (old new : CoreView) (before behind : FlusherView D) (batch : Batch) (room : ℕ)
      → HasTaken before.stage batch behind.stage → behind.published ≡ before.published → flush.IsInStep start before.stage before.published
      → IsTaken old room new batch → FitsArea before.stage room → legal old.durable (values batch.commands.items) ≡ true
      → (length (values batch.commands.items) ≤ 64) × (batch.first + length (values batch.commands.items) ≤ LAST_NUMBER + 1)
      → IsInStep start old before None → IsInStep start new behind None
  given_in_step start old new before behind batch room taken same stands is has_room passes bound was =
      given before.stage before.published behind.stage behind.published taken same stands has_room was.0
    where
      given : (s : FlushStage D) (published : List CommandValue) (t : FlushStage D) (list : List CommandValue) → HasTaken s batch t
          → list ≡ published
          → flush.IsInStep start s published → FitsArea s room → IsDurable start old published
          → IsDurable start new list × HasFlight new t × GoesOn t
      given (Resting j) published t list taken same stands fits durable = (
        subst (λ (cs : List CommandValue). IsDurable start new cs) (sym same)
            (subst (λ (c : CoreView). IsDurable start c published) (sym is.others)
            (record { number = durable.number; state = durable.state })),
        subst (λ (u : FlushStage D). HasFlight new u) (sym taken) (taken_flight old new room batch is),
        subst (λ (u : FlushStage D). GoesOn u) (sym taken)
            (taken_fits start published old new j.standing batch room stands.number stands.state durable is fits passes bound),
      )
      given (Opening c) published t list taken same stands fits durable = absurd taken
      given (Given j b) published t list taken same stands fits durable = absurd taken
      given (Checkpointing c b) published t list taken same stands fits durable = absurd taken
      given (Writing w) published t list taken same stands fits durable = absurd taken
      given (Publishing j written) published t list taken same stands fits durable = absurd taken
      given (Failed d f) published t list taken same stands fits durable = absurd taken

  -- the run continues
  pub given_running : (disk : D → Disk) (start : Start) (old new : CoreView) (before behind : FlusherView D) (batch : Batch) (room : ℕ)
      → HasTaken before.stage batch behind.stage → behind.published ≡ before.published → IsTaken old room new batch
      → KeepsRunning disk start (record { core = old; flusher = before; committed = None })
      (record { core = new; flusher = behind; committed = None })
  given_running disk start old new before behind batch room taken same is = record {
    goes_on = λ marks was.
        subst (λ (cs : List CommandValue). IsFlushing disk start.number start.state cs new.queue marks behind.stage) (sym same)
        (subst (λ (cs : List CommandValue). IsFlushing disk start.number start.state before.published cs marks behind.stage)
        (sym (ap (λ (c : CoreView). c.queue) is.others))
        (gives disk start.number start.state before.published old.queue marks before.stage behind.stage batch taken (
          drop new.flight old.queue,
          sym (take-append-drop new.flight old.queue)
              ∙ ap (λ (cs : List CommandValue). cs ++ drop new.flight old.queue) (sym is.commands),
        )
        was));
  }

  -- the batch that is durable is published
  pub published_in_step : (start : Start) (core : CoreView) (old new : FlusherView D) (committed : CommittedView)
      → HasPublished old.stage old.published new committed → IsInStep start core old None → IsInStep start core new (Some committed)
  published_in_step start core old new committed has was = published old.stage old.published has was.0 was.1
    where
      published : (s : FlushStage D) (list : List CommandValue) → HasPublished s list new committed → IsDurable start core list
          → HasFlight core s
          → IsDurable start core committed.before × (new.published ≡ committed.before ++ committed.commands)
          × IsInFlight core committed.commands × IsAtRest new.stage
      published (Publishing j written) list has durable flight = (
        subst (λ (cs : List CommandValue). IsDurable start core cs) (sym has.1) durable,
        ap (λ (v : FlusherView D). v.published) has.0
            ∙ (ap (λ (cs : List CommandValue). cs ++ written.commands) (sym has.1)
            ∙ ap (λ (cs : List CommandValue). committed.before ++ cs) (sym has.2)),
        subst (λ (cs : List CommandValue). IsInFlight core cs) (sym has.2) flight,
        subst (λ (v : FlusherView D). IsAtRest v.stage) (sym has.0) tt,
      )
      published (Resting j) list has durable flight = absurd has
      published (Opening c) list has durable flight = absurd has
      published (Given j b) list has durable flight = absurd has
      published (Checkpointing c b) list has durable flight = absurd has
      published (Writing w) list has durable flight = absurd has
      published (Failed d f) list has durable flight = absurd has

  -- the published list then ends with the commands of the batch
  list_is : (s : FlushStage D) (list : List CommandValue) (new : FlusherView D) (committed : CommittedView)
      → HasPublished s list new committed
      → new.published ≡ list ++ committed.commands
  list_is (Publishing j written) list new committed has =
      ap (λ (v : FlusherView D). v.published) has.0 ∙ ap (λ (cs : List CommandValue). list ++ cs) (sym has.2)
  list_is (Resting j) list new committed has = absurd has
  list_is (Opening c) list new committed has = absurd has
  list_is (Given j b) list new committed has = absurd has
  list_is (Checkpointing c b) list new committed has = absurd has
  list_is (Writing w) list new committed has = absurd has
  list_is (Failed d f) list new committed has = absurd has

  -- the commands before the batch are the list that was published before
  pub before_is : (s : FlushStage D) (list : List CommandValue) (new : FlusherView D) (committed : CommittedView)
      → HasPublished s list new committed
      → committed.before ≡ list
  before_is (Publishing j written) list new committed has = has.1
  before_is (Resting j) list new committed has = absurd has
  before_is (Opening c) list new committed has = absurd has
  before_is (Given j b) list new committed has = absurd has
  before_is (Checkpointing c b) list new committed has = absurd has
  before_is (Writing w) list new committed has = absurd has
  before_is (Failed d f) list new committed has = absurd has

  pub published_running : (disk : D → Disk) (start : Start) (core : CoreView) (old new : FlusherView D) (committed : CommittedView)
      → HasPublished old.stage old.published new committed
      → KeepsRunning disk start (record { core = core; flusher = old; committed = None })
      (record { core = core; flusher = new; committed = Some committed })
  published_running disk start core old new committed has = record {
    goes_on = λ marks was.
        let next = publishes disk start.number start.state old.published core.queue marks old.stage old.published new committed has was in
        let behind : drop (length committed.commands) core.queue ≡ next.0 = ap (drop (length committed.commands)) next.1
        ∙ drop-append_seam committed.commands next.0 in
        subst (λ (cs : List CommandValue).
        IsFlushing disk start.number start.state cs (drop (length committed.commands) core.queue) marks new.stage)
        (sym (list_is old.stage old.published new committed has))
        (subst (λ (cs : List CommandValue).
        IsFlushing disk start.number start.state (old.published ++ committed.commands) cs marks new.stage) (sym behind) next.2);
  }

-- a published batch that is still in flight is the one that the core waits for
pub in_flight : (start : Start) (core : CoreView) (committed : CommittedView) → IsDurable start core committed.before
    → IsInFlight core committed.commands
    → batches.IsInFlight start core committed
in_flight start core committed durable is = record {
  flies = omega (arith, is.flight, is.some);
  follows = sym durable.number;
  commands = sym (ap (λ (n : ℕ). take n core.queue) is.flight
      ∙ (ap (take (length committed.commands)) is.queue ∙ take-append_seam committed.commands is.behind));
}

-- after the batch is acknowledged, the queue has the commands after it
acknowledged_queue : (core : CoreView) (commands seen : List CommandValue) → IsInFlight core commands → (acknowledged core seen).queue
    ≡ drop (length commands) core.queue
acknowledged_queue core commands seen is = ap (λ (n : ℕ). drop n core.queue) is.flight

acknowledged_durable : (start : Start) (core : CoreView) (committed : CommittedView) (seen published : List CommandValue)
    → published ≡ committed.before ++ committed.commands → IsDurable start core committed.before → IsInFlight core committed.commands
    → IsDurable start (acknowledged core seen) published
acknowledged_durable start core committed seen published same durable is =
    subst (λ (cs : List CommandValue). IsDurable start (acknowledged core seen) cs) (sym same)
    (record {
      number = omega (arith, durable.number, is.flight, length-append committed.before committed.commands);
      state =
          ap (after core.durable) (sym ((in_flight start core committed durable is).commands))
          ∙ (ap (λ (s : State). after s committed.commands) durable.state
          ∙ sym (fold-append apply start.state committed.before committed.commands));
    })

module _ {D : Type 0} where
  pub acknowledged_in_step : (start : Start) (core : CoreView) (flusher : FlusherView D) (committed : CommittedView)
      (seen : List CommandValue)
      → IsInStep start core flusher (Some committed) → IsInStep start (acknowledged core seen) flusher None
  acknowledged_in_step start core flusher committed seen was = (
    acknowledged_durable start core committed seen flusher.published was.1 was.0 was.2,
    (rests flusher.stage was.3).0,
    (rests flusher.stage was.3).1,
  )
    where
      rests : (s : FlushStage D) → IsAtRest s → HasFlight (acknowledged core seen) s × GoesOn s
      rests (Resting j) at = (refl, tt)
      rests (Opening c) at = absurd at
      rests (Given j b) at = absurd at
      rests (Checkpointing c b) at = absurd at
      rests (Writing w) at = absurd at
      rests (Publishing j written) at = absurd at
      rests (Failed d f) at = absurd at

  pub acknowledged_running : (disk : D → Disk) (start : Start) (core : CoreView) (flusher : FlusherView D) (committed : CommittedView)
      (seen : List CommandValue)
      → IsInStep start core flusher (Some committed)
      → KeepsRunning disk start (record { core = core; flusher = flusher; committed = Some committed })
      (record { core = acknowledged core seen; flusher = flusher; committed = None })
  acknowledged_running disk start core flusher committed seen is = record {
    goes_on = λ marks was.
        subst (λ (cs : List CommandValue). IsFlushing disk start.number start.state flusher.published cs marks flusher.stage)
        (sym (acknowledged_queue core committed.commands seen is.2)) was;
  }
