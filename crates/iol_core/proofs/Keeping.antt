-- What holds of a core still holds after each of its calls.
use Rattle.std.proofs.Common.{◌≡◌, ◌≤◌, ◌<◌, ◌+◌, ◌-◌, ◌∷◌, [], ◌++◌, ℕ, Bool, true, false, nat_le, if◌then◌else◌, List, length, take, drop}
use Rattle.std.proofs.Common.{replicate, Option, Some, None, refl, sym, ap, ◌∙◌, subst, arith, length-append, length-drop, length-take-le}
use Rattle.std.proofs.Math.Seq.{take-length}
use Rattle.std.proofs.lemmas.Bool.{leb-false}
use Rattle.std.proofs.lemmas.List.{length-replicate}
use mathlib.Core.List.{IsPrefix}
use Rattle.iol_types.specs.Command.{CommandValue}
use Rattle.iol_types.specs.State.{State, after, check}
use Rattle.iol_types.proofs.StateLemmas.{length-after}
use Rattle.iol_journal.specs.Numbers.{LAST_NUMBER}
use Rattle.iol_front.specs.Fronts.{Start, CommittedView}
use Rattle.iol_core.specs.Batches.{IsInFlight, acknowledged}
use Rattle.iol_core.specs.Core.{CoreView, IsCore, FitsAt, live, live_number, permit_at, with_permit}
use Rattle.iol_core.specs.Standing.{Stands}
use Rattle.iol_core.specs.Submit.{queue_fault, queued}
use Rattle.iol_core.specs.declared.core_value.TheConstants.{QUEUE_COMMANDS}
use Rattle.iol_core.specs.declared.permit.Grant.{Grant}
use Rattle.iol_core.specs.declared.ticket.SubmitFault.{SubmitFault}
use Rattle.iol_core.specs.declared.ticket.SubmitFault.TheVariants.{QueueFull, Exhausted}
use Rattle.iol_core.proofs.Permits.{fits_applied, fits_written}
use Rattle.iol_core.proofs.Places.{length_written}
use Rattle.iol_core.proofs.Queues.{after_push, legal_push, legal_parts, after_parts, none_out}
use Rattle.iol_core.proofs.Standing as standing

-- a new core over a durable state
pub new_core : (start : Start) (seen : List CommandValue) (state : State) (permits : List (Option Grant)) → state ≡ after start.state seen
    → start.number + length seen ≤ LAST_NUMBER → permits ≡ replicate (length state) None
    → IsCore start (record {
      durable = state;
      number = start.number + length seen;
      queue = [];
      flight = 0;
      permits = permits;
      stopped = None;
      seen = seen;
    })
new_core start seen state permits is bound none =
    let whole : start.number + length seen - start.number ≡ length seen = omega arith in
    record {
      stands = record {
        above = omega arith;
        within = omega arith;
        state = is ∙ ap (after start.state) (sym (ap (λ (n : ℕ). take n seen) whole ∙ take-length seen));
      };
      legal = refl;
      few = omega arith;
      bound = omega arith;
      flight = omega arith;
      places = ap length none ∙ length-replicate (length state) None;
      permits = λ port one. subst (λ (out : Option Grant). FitsAt state port out)
          (sym (ap (λ (l : List (Option Grant)).
          permit_at (record { durable = state; number = 0; queue = []; flight = 0; permits = l; stopped = None; seen = [] }) port) none
          ∙ none_out (length state) (port - 1)))
          tt;
    }

neither : (one two : Bool) (a b : SubmitFault) → (if one then Some a else if two then Some b else None) ≡ None → (one ≡ false)
    × (two ≡ false)
neither true two a b e = absurd cc
neither false true a b e = absurd cc
neither false false a b e = (refl, refl)

-- a queue that accepts a further command
pub has_room : (core : CoreView) → queue_fault core ≡ None → (length core.queue < QUEUE_COMMANDS) × (live_number core < LAST_NUMBER)
has_room core room =
    let tests = neither (nat_le QUEUE_COMMANDS (length core.queue)) (nat_le LAST_NUMBER (live_number core)) QueueFull Exhausted room in
    (leb-false QUEUE_COMMANDS (length core.queue) tests.0, leb-false LAST_NUMBER (live_number core) tests.1)

-- a port's permit is set to out or to not out
pub permit_core : (start : Start) (core : CoreView) (port : ℕ) (permit : Option Grant) → IsCore start core → 1 ≤ port
    → FitsAt (live core) port permit → IsCore start (with_permit core port permit)
permit_core start core port permit is one fits = record {
  stands = is.stands;
  legal = is.legal;
  few = is.few;
  bound = is.bound;
  flight = is.flight;
  places = length_written core.permits (port - 1) permit ∙ is.places;
  permits = fits_written (live core) core.permits port permit one fits is.permits;
}

-- one more command waits
pub queued_core : (start : Start) (core : CoreView) (command : CommandValue) → IsCore start core → check (live core) command ≡ None
    → queue_fault core ≡ None
    → IsCore start (queued core command)
queued_core start core command is passes room =
    let more : length (core.queue ++ command ∷ []) ≡ length core.queue + 1 = length-append core.queue (command ∷ []) in
    let free = has_room core room in
    let few : length core.queue < QUEUE_COMMANDS = free.0 in
    let left : core.number + length core.queue < LAST_NUMBER = free.1 in
    let flight : core.flight ≤ length core.queue = is.flight in
    record {
      stands = is.stands;
      legal = legal_push core.durable core.queue command is.legal passes;
      few = omega (arith, more, few);
      bound = omega (arith, more, left);
      flight = omega (arith, more, flight);
      places = is.places;
      permits = λ port one.
          subst (λ (state : State). FitsAt state port (permit_at core port)) (sym (after_push core.durable core.queue command))
          (fits_applied (live core) command port (permit_at core port) one (is.permits port one));
    }

-- the batch in flight is durable
pub acknowledged_core : (start : Start) (core : CoreView) (batch : CommittedView) (seen : List CommandValue) → IsCore start core
    → IsInFlight start core batch
    → IsPrefix core.seen seen → IsPrefix (batch.before ++ batch.commands) seen → IsCore start (acknowledged core seen)
acknowledged_core start core batch seen is flies kept shown =
    let front : batch.commands ≡ take core.flight core.queue = flies.commands in
    let cut : length batch.commands ≡ core.flight = ap length front ∙ length-take-le core.flight core.queue is.flight in
    let rest : length (drop core.flight core.queue) ≡ length core.queue - core.flight = length-drop core.flight core.queue in
    let flight : core.flight ≤ length core.queue = is.flight in
    let few : length core.queue ≤ QUEUE_COMMANDS = is.few in
    let bound : core.number + length core.queue ≤ LAST_NUMBER = is.bound in
    let stood = standing.acknowledged start core.seen seen batch.before batch.commands core.number core.durable is.stands kept shown
    flies.follows in
    let at_flight : Stands start seen (core.number + core.flight) (after core.durable batch.commands) =
    subst (λ (n : ℕ). Stands start seen (core.number + n) (after core.durable batch.commands)) cut stood in
    record {
      stands = subst (λ (commands : List CommandValue). Stands start seen (core.number + core.flight) (after core.durable commands)) front
          at_flight;
      legal = (legal_parts core.durable core.queue core.flight is.legal).1;
      few = omega (arith, rest, few);
      bound = omega (arith, rest, bound, flight);
      flight = omega arith;
      places = is.places ∙ sym (length-after core.durable (take core.flight core.queue));
      permits = λ port one.
          subst (λ (state : State). FitsAt state port (permit_at core port)) (sym (after_parts core.durable core.queue core.flight))
          (is.permits port one);
    }
