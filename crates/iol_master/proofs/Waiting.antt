-- Each caller waits for the command at its place in the queue.
use Rattle.std.proofs.Common.{◌≡◌, refl, ◌<◌, ◌≤◌, ℕ, ◌+◌, zero, suc, Bool, true, false, if◌then◌else◌, replicate}
use Rattle.std.proofs.Common.{List, [], ◌∷◌, ◌++◌, length}
use Rattle.std.proofs.Common.{take, drop, Option, Some, None, Result, Ok, Err, IfOk, IfErr, IsOk, OnOk, OnErr}
use Rattle.std.proofs.Common.{slice_get, sym, ◌∙◌, ap, arith, ◌-◌, slice_index, subst, suc-add, length-append}
use Rattle.std.proofs.lemmas.List.{append-nil, drop_all, length-set, take_all}
use Rattle.iol_types.specs.Command.{CommandValue, command_of}
use Rattle.iol_types.specs.declared.command.Change.{Change}
use Rattle.iol_types.specs.State.{check}
use Rattle.iol_types.specs.declared.command.CommandFault.{CommandFault}
use Rattle.iol_core.specs.Batches.{IsInFlight, IsStranger, acknowledged}
use Rattle.iol_core.specs.Core.{CoreView, live, live_number}
use Rattle.iol_core.specs.Submit.{first_cause, is_stopped, queue_fault, submit_fault}
use Rattle.iol_core.specs.declared.batches.AckFault.{AckFault}
use Rattle.iol_core.specs.declared.batches.AckFault.TheVariants.{Stranger}
use Rattle.iol_core.specs.declared.core_value.TheConstants.{QUEUE_COMMANDS}
use Rattle.iol_core.specs.declared.ticket.SubmitFault.{SubmitFault}
use Rattle.iol_core.specs.declared.ticket.SubmitFault.TheVariants.{Command, Stopped}
use Rattle.iol_front.specs.Fronts.{CommittedView, Start}
use Rattle.iol_port.specs.Calls.{Call, Replies}
use Rattle.iol_port.specs.declared.call.Reply.{Reply}
use Rattle.iol_engine.proofs.Changes.{Change as Made, Permits, Waits, changed, replied, room_in}
use Rattle.iol_engine.proofs.PortCalls.{step_becomes}
use Rattle.iol_engine.specs.Engine.{EngineView}
use Rattle.iol_engine.specs.Events.{told_of}
use Rattle.iol_engine.specs.Handed.{Hands, handed_number}
use Rattle.iol_engine.specs.HandedSteps.{StepsHanded}
use Rattle.iol_engine.specs.declared.handed.Handed.{Handed}
use Rattle.iol_engine.specs.declared.port_step.PortTold.{PortTold}
use Rattle.iol_master.specs.Callers.{AreCallersOf}
use Rattle.iol_master.specs.Wakes.{woken, woken_again}
use Rattle.iol_master.specs.declared.guarded.Phase.{Phase}
use Rattle.iol_master.specs.declared.guarded.Phase.TheVariants.{Running, Ending, Closed}

-- the number of places is the number of commands
pub as_many : (queue : List CommandValue) (callers : List (Option Change)) → AreCallersOf queue callers → length callers ≡ length queue
as_many [] [] are = refl
as_many [] (c ∷ callers) are = absurd are
as_many (command ∷ queue) [] are = absurd are
as_many (command ∷ queue) (None ∷ callers) are = ap suc (as_many queue callers are)
as_many (command ∷ queue) (Some change ∷ callers) are = ap suc (as_many queue callers are.1)

-- one more command is queued, without a caller or with the one that requested it
pub waits_more : (queue : List CommandValue) (callers : List (Option Change)) (command : CommandValue) (caller : Option Change)
    → AreCallersOf queue callers → AreCallersOf (command ∷ []) (caller ∷ [])
    → AreCallersOf (queue ++ command ∷ []) (callers ++ caller ∷ [])
waits_more [] [] command caller are last = last
waits_more [] (c ∷ callers) command caller are last = absurd are
waits_more (first ∷ queue) [] command caller are last = absurd are
waits_more (first ∷ queue) (None ∷ callers) command caller are last = waits_more queue callers command caller are last
waits_more (first ∷ queue) (Some change ∷ callers) command caller are last = (are.0, waits_more queue callers command caller are.1 last)

-- the first `count` commands have their callers, and so have the commands after them
pub first_callers : (count : ℕ) (queue : List CommandValue) (callers : List (Option Change)) → AreCallersOf queue callers
    → AreCallersOf (take count queue) (take count callers)
first_callers zero queue callers are = tt
first_callers (suc n) [] [] are = tt
first_callers (suc n) [] (c ∷ callers) are = absurd are
first_callers (suc n) (command ∷ queue) [] are = absurd are
first_callers (suc n) (command ∷ queue) (None ∷ callers) are = first_callers n queue callers are
first_callers (suc n) (command ∷ queue) (Some change ∷ callers) are = (are.0, first_callers n queue callers are.1)

pub other_callers : (count : ℕ) (queue : List CommandValue) (callers : List (Option Change)) → AreCallersOf queue callers
    → AreCallersOf (drop count queue) (drop count callers)
other_callers zero queue callers are = are
other_callers (suc n) [] [] are = tt
other_callers (suc n) [] (c ∷ callers) are = absurd are
other_callers (suc n) (command ∷ queue) [] are = absurd are
other_callers (suc n) (command ∷ queue) (None ∷ callers) are = other_callers n queue callers are
other_callers (suc n) (command ∷ queue) (Some change ∷ callers) are = other_callers n queue callers are.1

-- the number of commands at the front of the queue is the number of their places
pub taken_places : (count : ℕ) (queue : List CommandValue) (callers : List (Option Change)) → AreCallersOf queue callers
    → (take (length (take count queue)) callers ≡ take count callers) × (drop (length (take count queue)) callers ≡ drop count callers)
taken_places zero queue callers are = (refl, refl)
taken_places (suc n) [] [] are = (refl, refl)
taken_places (suc n) [] (c ∷ callers) are = absurd are
taken_places (suc n) (command ∷ queue) [] are = absurd are
taken_places (suc n) (command ∷ queue) (None ∷ callers) are =
    let rest = taken_places n queue callers are in (ap (λ (ws : List (Option Change)). None ∷ ws) rest.0, rest.1)
taken_places (suc n) (command ∷ queue) (Some change ∷ callers) are =
    let rest = taken_places n queue callers are.1 in (ap (λ (ws : List (Option Change)). Some change ∷ ws) rest.0, rest.1)

-- commands may all be without callers
pub nobody_waits : (queue : List CommandValue) → AreCallersOf queue (replicate (length queue) None)
nobody_waits [] = tt
nobody_waits (command ∷ queue) = nobody_waits queue

-- once all callers are dropped, no caller waits at the places that they had
pub nobody_left : (was queue : List CommandValue) (before after : List (Option Change)) (places : ℕ) → AreCallersOf was before
    → length queue ≡ length was → length before ≡ places → after ≡ replicate places None → AreCallersOf queue after
nobody_left was queue before after places are same count is =
    let all : places ≡ length queue = sym count ∙ (as_many was before are ∙ sym same) in
    subst (λ (callers : List (Option Change)). AreCallersOf queue callers)
    (sym (is ∙ ap (λ (n : ℕ). replicate n None) all)) (nobody_waits queue)

-- a caller at a place requested the command there
pub asked_at : (queue : List CommandValue) (callers : List (Option Change)) (place : ℕ) (change : Change) → AreCallersOf queue callers
    → slice_get callers place ≡ Some (Some change) → slice_get queue place ≡ Some (command_of change)
asked_at [] [] place change are there = absurd (gone there)
  where
    gone : None ≡ Some (Some change) → ⊥
    gone wrong = cc
asked_at [] (c ∷ callers) place change are there = absurd are
asked_at (command ∷ queue) [] place change are there = absurd are
asked_at (command ∷ queue) (None ∷ callers) zero change are there = absurd (other there)
  where
    other : Some None ≡ Some (Some change) → ⊥
    other wrong = cc
asked_at (command ∷ queue) (None ∷ callers) (suc place) change are there = asked_at queue callers place change are there
asked_at (command ∷ queue) (Some asked ∷ callers) zero change are there =
    ap Some (sym are.0 ∙ ap command_of (same there))
  where
    same : Some (Some asked) ≡ Some (Some change) → asked ≡ change
    same is = cc
asked_at (command ∷ queue) (Some asked ∷ callers) (suc place) change are there = asked_at queue callers place change are.1 there

-- an item among the first `count` is the same in the whole list
pub taken_at : {A : Type 0} (count place : ℕ) (xs : List A) → place < count → slice_get (take count xs) place ≡ slice_get xs place
taken_at zero place xs below = absurd (omega (arith, below))
taken_at (suc n) place [] below = refl
taken_at (suc n) zero (x ∷ xs) below = refl
taken_at (suc n) (suc place) (x ∷ xs) below = taken_at n place xs (omega (arith, below))

-- the first item of what is left from a place on is the item at that place
pub first_after : {A : Type 0} (xs : List A) (place : ℕ) (x : A) (rest : List A) → drop place xs ≡ x ∷ rest
    → slice_get xs place ≡ Some x
first_after [] zero x rest is = absurd (no_first is)
  where
    no_first : [] ≡ x ∷ rest → ⊥
    no_first wrong = cc
first_after [] (suc n) x rest is = absurd (no_first is)
  where
    no_first : [] ≡ x ∷ rest → ⊥
    no_first wrong = cc
first_after (y ∷ ys) zero x rest is = ap (λ (l : List _). slice_get l 0) is
first_after (y ∷ ys) (suc n) x rest is = first_after ys n x rest is

-- a call that succeeds returns no error
pub not_taken : {A E : Type 0} (answer : Result A E) (why : E) → IsOk answer → answer ≡ Err why → ⊥
not_taken (Ok done) why ok is = cc
not_taken (Err fault) why ok is = cc

-- a list that is written over the whole of another replaces it
pub written_back : (len : ℕ) (new old : List ℕ) → length new ≡ length old → len ≡ length old
    → take len (new ++ drop (length new) old) ≡ new
written_back len new old same all =
    let rest : drop (length new) old ≡ [] = drop_all (length new) old (omega (arith, same)) in
    ap (λ (behind : List ℕ). take len (new ++ behind)) rest
    ∙ (ap (take len) (append-nil new) ∙ take_all len new (omega (arith, same, all)))

-- waking a port does not change the number of ports
pub woken_as_many : (phase : Phase) (port : ℕ) (wakes : List ℕ) → length (woken phase port wakes) ≡ length wakes
woken_as_many Running port wakes = length-set wakes (port - 1) (woken_again (slice_index wakes (port - 1)))
woken_as_many Ending port wakes = refl
woken_as_many Closed port wakes = refl

-- while fewer places are filled than there were, the capacity suffices for one more
pub room_left : (len count places all room was : ℕ) → len ≡ count → count < places → places ≡ all → all ≤ was → room ≡ was → len < room
room_left len count places all room was filled below same fits kept = omega arith

-- a command is accepted only if the queue is not full
queue_free : (stopped : Bool) (checked : Option CommandFault) (queue : Option SubmitFault)
    → (if stopped then Some Stopped else first_cause checked queue) ≡ None → queue ≡ None
queue_free true checked queue none = absurd (there none)
  where
    there : Some Stopped ≡ None → ⊥
    there wrong = cc
queue_free false (Some fault) queue none = absurd (there none)
  where
    there : Some (Command fault) ≡ None → ⊥
    there wrong = cc
queue_free false None queue none = none

pub submit_room : (core : CoreView) (command : CommandValue) → submit_fault core command ≡ None
    → length core.queue + 1 ≤ QUEUE_COMMANDS
submit_room core command none = room_in core (queue_free (is_stopped core) (check (live core) command) (queue_fault core) none)

-- the queue after a call of a port: if the live number rises, one more command waits, without a caller; if not, the callers are the same
pub record IsStillWaited (old new : ℕ) (queue : List CommandValue) (callers : List (Option Change)) : Type 0 where
  pub more : old < new → AreCallersOf queue (callers ++ None ∷ [])
  pub same : (old < new → ⊥) → AreCallersOf queue callers

made_waits : (made : Made) (old new : CoreView) (callers : List (Option Change)) → new ≡ changed old made → AreCallersOf old.queue callers
    → IsStillWaited (live_number old) (live_number new) new.queue callers
made_waits (Permits permits) old new callers is are = record {
  more = λ rises. absurd (omega (arith, rises, ap live_number is));
  same = λ stays. subst (λ (q : List CommandValue). AreCallersOf q callers) (sym (ap (λ (c : CoreView). c.queue) is)) are;
}
made_waits (Waits command permits) old new callers is are = record {
  more = λ rises. subst (λ (q : List CommandValue). AreCallersOf q (callers ++ None ∷ [])) (sym (ap (λ (c : CoreView). c.queue) is))
      (waits_more old.queue callers command None are tt);
  same = λ stays. absurd (stays (omega (arith, ap live_number is, length-append old.queue (command ∷ []))));
}

pub call_waits : (call : Call) (old new : CoreView) (heard : Reply) (callers : List (Option Change)) → Replies call old new heard
    → AreCallersOf old.queue callers → IsStillWaited (live_number old) (live_number new) new.queue callers
call_waits call old new heard callers replies are =
    let became = replied 0 call old new heard replies in made_waits became.change old new callers became.new_is are

pub handed_waits : {E : Type 0} (port : ℕ) (handed : Handed) (old new : EngineView) (callers : List (Option Change))
    (answer : Result PortTold E)
    → IfOk answer (λ told. StepsHanded port handed old new (told_of told.called ++ told_of told.status)) → OnErr answer (new ≡ old)
    → AreCallersOf old.core.queue callers
    → IsStillWaited (live_number old.core) (live_number new.core) new.core.queue callers
handed_waits port handed old new callers (Ok told) steps same are =
    let makes = steps.makes in
    let becomes =
    step_becomes handed_number Hands makes.before makes.after handed steps.linked old.core new.core makes.called makes.status
    makes.steps_as in
    made_waits becomes.0.change old.core new.core callers becomes.0.new_is are
handed_waits port handed old new callers (Err why) steps same are =
    made_waits (Permits old.core.permits) old.core new.core callers (ap (λ (e : EngineView). e.core) same) are

-- dropping one more item after the first `place` items drops the first `place + 1`
pub dropped_next : {A : Type 0} (xs : List A) (place : ℕ) → drop 1 (drop place xs) ≡ drop (place + 1) xs
dropped_next [] zero = refl
dropped_next [] (suc n) = rw suc-add refl
dropped_next (x ∷ xs) zero = refl
dropped_next (x ∷ xs) (suc n) = rw suc-add (dropped_next xs n)

-- what holds in any case holds if a call succeeds
pub on_ok : {A E P : Type 0} (answer : Result A E) → P → OnOk answer P
on_ok (Ok done) p = p
on_ok (Err why) p = tt

-- the batch in flight is acknowledged, and not returned as a stranger
pub not_strange : {F : Type 0} (start : Start) (old new : CoreView) (committed : CommittedView) (answer : Result ℕ (AckFault F))
    → IsInFlight start old committed → IfOk answer (λ number. new ≡ acknowledged old new.seen)
    → IfErr answer (λ fault. IsStranger start old committed fault × (new ≡ old)) → new ≡ acknowledged old new.seen
not_strange start old new committed (Ok number) flies done strange = done
not_strange start old new committed (Err (Stranger back)) flies done strange = absurd (strange.0.1 flies)

-- the claims about an engine that acknowledges a batch, or returns it, hold of its core
pub core_acknowledged : {F : Type 0} (start : Start) (old new : EngineView) (committed : CommittedView) (answer : Result ℕ (AckFault F))
    → IfOk answer (λ number. IsInFlight start old.core committed × (new.core ≡ acknowledged old.core new.core.seen)
    × (number ≡ new.core.number))
    → IfOk answer (λ number. new.core ≡ acknowledged old.core new.core.seen)
core_acknowledged start old new committed (Ok number) is = is.1
core_acknowledged start old new committed (Err why) is = tt

pub core_strange : {F : Type 0} (start : Start) (old new : EngineView) (committed : CommittedView) (answer : Result ℕ (AckFault F))
    → IfErr answer (λ fault. IsStranger start old.core committed fault × (new ≡ old))
    → IfErr answer (λ fault. IsStranger start old.core committed fault × (new.core ≡ old.core))
core_strange start old new committed (Ok number) is = tt
core_strange start old new committed (Err why) is = (is.0, ap (λ (e : EngineView). e.core) is.1)
