-- A core is as the events say.
use Rattle.std.proofs.Common.{◌≡◌, ◌≤◌, refl, ◌+◌, ◌-◌, ℕ, List, [], ◌∷◌, ◌++◌, length, take, drop, Result, Ok}
use Rattle.std.proofs.Common.{Err, ap, sym, ◌∙◌, subst, arith, append-nil, append_assoc, length-append}
use Rattle.std.proofs.Math.Seq.{take-append_seam}
use Rattle.std.proofs.lemmas.List.{take-append-drop, length-take-le}
use Rattle.std.proofs.lemmas.List.Sums.{fold-append}
use Rattle.iol_types.specs.Command.{CommandValue}
use Rattle.iol_types.specs.State.{State, after, apply}
use Rattle.iol_core.specs.Batches.{acknowledged}
use Rattle.iol_core.specs.Core.{CoreView, live_number}
use Rattle.iol_core.specs.Submit.{IsSubmit}
use Rattle.iol_core.specs.declared.ticket.SubmitFault.{SubmitFault}
use Rattle.iol_core.proofs.Words.{accepted-append, acked-append}
use Rattle.iol_core.specs.Events.{Event, Accepted, Acknowledged, Stamp, stamped}
use Rattle.iol_core.specs.Words.{accepted, acked}
use Rattle.iol_engine.proofs.Changes.{Becomes, Change, Permits, Waits, Tells, changed}
use Rattle.iol_engine.proofs.Quiet.{AreQuiet, quiet_accepted, quiet_acked, stamped_both}
use Rattle.iol_engine.specs.Engine as engine
use Rattle.iol_engine.specs.PortRuns.{IsCoreAfter}
use Rattle.iol_engine.specs.Submitted.{submit_told}

module _ (first : ℕ) (start : State) where
  -- what was accepted is what is durable and what waits, and what was acknowledged is what is durable
  abbrev pub Stands : List Stamp → CoreView → Type 0
  Stands events core = engine.Stands first start events core

  pub core_after : (events : List Stamp) (core : CoreView) → Stands events core → IsCoreAfter first start events core
  core_after events core is = record {
    live =
        ap (λ (s : State). after s core.queue) is.durable_is
        ∙ sym (ap (after start) is.accepted_is ∙ fold-append apply start is.done core.queue);
    live_number =
        omega (arith, is.number_is, length-append is.done core.queue)
        ∙ ap (λ (cs : List CommandValue). first + length cs) (sym is.accepted_is);
    durable =
        is.durable_is
        ∙ sym (ap (after start)
        (ap (λ (n : ℕ). take n (accepted events)) counted
        ∙ (ap (take (length is.done)) is.accepted_is ∙ take-append_seam is.done core.queue)));
    number = sym is.acked_is;
  }
    where
      counted : acked first events - first ≡ length is.done
      counted = omega (arith, is.acked_is, is.number_is)

  -- events that accept and acknowledge nothing, if the core has the same commands
  pub quiet : (events more : List Stamp) (old new : CoreView) → accepted more ≡ [] → ((n : ℕ) → acked n more ≡ n) → new.queue ≡ old.queue
      → new.durable ≡ old.durable → new.number ≡ old.number → new.flight ≤ length new.queue → Stands events old
      → Stands (events ++ more) new
  quiet events more old new none acks queue durable number flight is = record {
    done = is.done;
    accepted_is =
        accepted-append events more
        ∙ (ap (λ (cs : List CommandValue). accepted events ++ cs) none
        ∙ (append-nil (accepted events)
        ∙ (is.accepted_is ∙ ap (λ (cs : List CommandValue). is.done ++ cs) (sym queue))));
    durable_is = durable ∙ is.durable_is;
    number_is = number ∙ is.number_is;
    acked_is = acked-append first events more ∙ (acks (acked first events) ∙ (is.acked_is ∙ sym number));
    flight = flight;
  }

  -- nothing is reported, and the core stays
  pub stays : (events more : List Stamp) (old new : CoreView) → more ≡ [] → new ≡ old → Stands events old → Stands (events ++ more) new
  stays events more old new none same is =
      subst (λ (ss : List Stamp). Stands (events ++ ss) new) (sym none)
      (subst (λ (c : CoreView). Stands (events ++ []) c) (sym same)
      (quiet events [] old old refl (λ n. refl) refl refl refl is.flight is))

  -- a command is accepted, and waits
  pub accepts : (t number : ℕ) (events : List Stamp) (command : CommandValue) (old new : CoreView) → new.queue ≡ old.queue ++ command ∷ []
      → new.durable ≡ old.durable → new.number ≡ old.number → new.flight ≡ old.flight → Stands events old
      → Stands (events ++ stamped t (Accepted number command ∷ [])) new
  accepts t number events command old new queue durable same flight is = record {
    done = is.done;
    accepted_is =
        accepted-append events (stamped t (Accepted number command ∷ []))
        ∙ (ap (λ (cs : List CommandValue). cs ++ command ∷ []) is.accepted_is
        ∙ (append_assoc is.done old.queue (command ∷ [])
        ∙ ap (λ (cs : List CommandValue). is.done ++ cs) (sym queue)));
    durable_is = durable ∙ is.durable_is;
    number_is = same ∙ is.number_is;
    acked_is = acked-append first events (stamped t (Accepted number command ∷ [])) ∙ (is.acked_is ∙ sym same);
    flight = omega (arith, flight, is.flight, ap length queue, length-append old.queue (command ∷ []));
  }

  -- commands are acknowledged
  pub acknowledges : (t : ℕ) (events : List Stamp) (seen : List CommandValue) (old new : CoreView) → new ≡ acknowledged old seen
      → Stands events old
      → Stands (events ++ stamped t (Acknowledged new.number ∷ [])) new
  acknowledges t events seen old new same is = record {
    done = is.done ++ front;
    accepted_is =
        accepted-append events (stamped t (Acknowledged new.number ∷ []))
        ∙ (append-nil (accepted events)
        ∙ (is.accepted_is
        ∙ (ap (λ (cs : List CommandValue). is.done ++ cs) (sym (take-append-drop old.flight old.queue))
        ∙ (sym (append_assoc is.done front behind)
        ∙ ap (λ (c : CoreView). (is.done ++ front) ++ c.queue) (sym same)))));
    durable_is =
        ap (λ (c : CoreView). c.durable) same
        ∙ (ap (λ (s : State). after s front) is.durable_is ∙ sym (fold-append apply start is.done front));
    number_is =
        ap (λ (c : CoreView). c.number) same
        ∙ omega (arith, is.number_is, length-append is.done front, length-take-le old.flight old.queue is.flight);
    acked_is = acked-append first events (stamped t (Acknowledged new.number ∷ []));
    flight = subst (λ (c : CoreView). c.flight ≤ length c.queue) (sym same) (omega arith);
  }
    where
      front : List CommandValue
      front = take old.flight old.queue

      behind : List CommandValue
      behind = drop old.flight old.queue

  -- a client's command
  pub submit_stands : (t : ℕ) (events : List Stamp) (command : CommandValue) (old new : CoreView) (answer : Result ℕ SubmitFault)
      → IsSubmit old command new answer → Stands events old → Stands (events ++ stamped t (submit_told command answer)) new
  submit_stands t events command old new (Ok n) is was =
      accepts t n events command old new (ap (λ (c : CoreView). c.queue) is.2) (ap (λ (c : CoreView). c.durable) is.2)
      (ap (λ (c : CoreView). c.number) is.2) (ap (λ (c : CoreView). c.flight) is.2) was
  submit_stands t events command old new (Err f) is was =
      quiet events (stamped t (submit_told command (Err f))) old new refl (λ n. refl) (ap (λ (c : CoreView). c.queue) is.1)
      (ap (λ (c : CoreView). c.durable) is.1) (ap (λ (c : CoreView). c.number) is.1)
      (subst (λ (c : CoreView). c.flight ≤ length c.queue) (sym is.1) was.flight) was

  -- what a call of a port makes of the core
  pub becomes_stands : (P : Type 0) (t : ℕ) (events : List Stamp) (old new : CoreView) (told : List Event) → Becomes P old new told
      → Stands events old
      → Stands (events ++ stamped t told) new
  becomes_stands P t events old new told becomes was = by becomes.change becomes.new_is becomes.tells
    where
      by : (change : Change) → new ≡ changed old change → Tells old change told → Stands (events ++ stamped t told) new
      by (Permits permits) is tells =
          quiet events (stamped t told) old new (quiet_accepted t told tells) (λ n. quiet_acked t n told tells)
          (ap (λ (c : CoreView). c.queue) is)
          (ap (λ (c : CoreView). c.durable) is) (ap (λ (c : CoreView). c.number) is)
          (subst (λ (c : CoreView). c.flight ≤ length c.queue) (sym is) was.flight) was
      by (Waits command permits) is tells =
          subst (λ (es : List Event). Stands (events ++ stamped t es) new) (sym tells)
          (accepts t (live_number old + 1) events command old new (ap (λ (c : CoreView). c.queue) is) (ap (λ (c : CoreView). c.durable) is)
          (ap (λ (c : CoreView). c.number) is) (ap (λ (c : CoreView). c.flight) is) was)

  -- a step of a port: its call makes a change and reports it, and its status reports none
  pub stepped_stands : (t : ℕ) (events : List Stamp) (old new : CoreView) (called status : List Event) → Becomes ⊥ old new called
      → AreQuiet status → Stands events old → Stands (events ++ stamped t (called ++ status)) new
  stepped_stands t events old new called status becomes none was =
      let one = becomes_stands ⊥ t events old new called becomes was in
      subst (λ (ss : List Stamp). Stands (events ++ ss) new) (sym (stamped_both t called status))
      (subst (λ (ss : List Stamp). Stands ss new) (append_assoc events (stamped t called) (stamped t status))
      (quiet (events ++ stamped t called) (stamped t status) new new (quiet_accepted t status none) (λ n. quiet_acked t n status none) refl
      refl refl one.flight one))
