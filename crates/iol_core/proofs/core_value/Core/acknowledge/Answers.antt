use Rattle.std.proofs.Common.{◌≡◌, ◌+◌, List, take, drop, sym, ap, ◌∙◌, subst, arith, rules}
use mathlib.Core.List.{IsPrefix}
use Rattle.iol_types.specs.Command.{CommandValue}
use Rattle.iol_types.specs.State.{State, after}
use Rattle.iol_journal.specs.Body.{values}
use Rattle.iol_core.specs.Batches.{IsInFlight, acknowledged}
use Rattle.iol_core.specs.Core.{CoreView, IsCore, live}
use Rattle.iol_core.proofs.Keeping.{acknowledged_core}
use Rattle.iol_core.proofs.Queues.{after_parts}
use Rattle.iol_core.proofs.core_value.Core.acknowledge.Goals as goal

pub invariant_of-self : goal.invariant_of-self
invariant_of-self g c =
    let i = c.self.inside in
    let was = c.self.invariant in
    let queue = values i.queue.items in
    let start = g.F.Name.front.start in
    let old : CoreView =
    record {
      durable = i.durable;
      number = i.number;
      queue = queue;
      flight = i.flight;
      permits = i.permits.items;
      stopped = i.stopped;
      seen = i.pass;
    } in
    let flies : IsInFlight start old c.args.committed =
    subst (λ (v : CoreView). IsInFlight start v c.args.committed) (sym c.self.view_is) (c.awaits.ensures.0 (search rules)) in
    let holds = acknowledged_core start old c.args.committed c.show.new.pass was.0 flies c.show.ensures.kept c.show.ensures.shown in
    let durable : c.apply_front.new.durable ≡ after i.durable (take i.flight queue) = c.apply_front.ensures.durable in
    let rest : values c.apply_front.new.queue.items ≡ drop i.flight queue = c.apply_front.ensures.queue in (
      subst (λ (d : State).
          IsCore start (record {
            durable = d;
            number = i.number + i.flight;
            queue = values c.apply_front.new.queue.items;
            flight = 0;
            permits = i.permits.items;
            stopped = i.stopped;
            seen = c.show.new.pass;
          }))
          (sym durable)
          (subst (λ (q : List CommandValue).
          IsCore start (record {
            durable = after i.durable (take i.flight queue);
            number = i.number + i.flight;
            queue = q;
            flight = 0;
            permits = i.permits.items;
            stopped = i.stopped;
            seen = c.show.new.pass;
          }))
          (sym rest) holds),
      was.1 ∙ (sym (after_parts i.durable queue i.flight)
          ∙ (ap (λ (s : State). after s (drop i.flight queue)) (sym durable) ∙ ap (after c.apply_front.new.durable) (sym rest))),
      omega (arith, c.apply_front.ensures.room, was.2),
    )

pub returns-clause-live : goal.returns-clause-live
returns-clause-live g c =
    let i = c.self.inside in
    let queue = values i.queue.items in
    let durable : c.apply_front.new.durable ≡ after i.durable (take i.flight queue) = c.apply_front.ensures.durable in
    let rest : values c.apply_front.new.queue.items ≡ drop i.flight queue = c.apply_front.ensures.queue in
    ap (after c.apply_front.new.durable) rest ∙ (ap (λ (s : State). after s (drop i.flight queue)) durable
    ∙ (after_parts i.durable queue i.flight ∙ ap live c.self.view_is))

pub returns-clause-seen : goal.returns-clause-seen
returns-clause-seen g c =
    (subst (λ (v : CoreView). IsPrefix v.seen c.show.new.pass) c.self.view_is c.show.ensures.kept, c.show.ensures.shown)

pub returns-clause-acknowledged : goal.returns-clause-acknowledged
returns-clause-acknowledged g c =
    let i = c.self.inside in
    let front = take i.flight (values i.queue.items) in
    let core : State → List CommandValue → CoreView =
    λ durable queue. record {
      durable = durable;
      number = i.number + i.flight;
      queue = queue;
      flight = 0;
      permits = i.permits.items;
      stopped = i.stopped;
      seen = c.show.new.pass;
    } in
    ap (λ (d : State). core d (values c.apply_front.new.queue.items)) c.apply_front.ensures.durable
    ∙ (ap (core (after i.durable front)) c.apply_front.ensures.queue ∙ ap (λ (v : CoreView). acknowledged v c.show.new.pass) c.self.view_is)
