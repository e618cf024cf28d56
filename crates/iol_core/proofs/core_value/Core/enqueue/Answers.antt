use Rattle.std.proofs.Common.{◌≡◌, ◌∷◌, [], ◌++◌, List, None, sym, ap, ◌∙◌, subst, arith}
use Rattle.std.proofs.lemmas.List.{map-append}
use Rattle.iol_types.specs.Command.{CommandValue, value_of}
use Rattle.iol_types.specs.State.{State, apply, after, check}
use Rattle.iol_journal.specs.Body.{values}
use Rattle.iol_core.specs.Core.{CoreView, IsCore, live}
use Rattle.iol_core.specs.Submit.{queue_fault, queued}
use Rattle.iol_core.proofs.Keeping.{queued_core}
use Rattle.iol_core.proofs.Queues.{after_push}
use Rattle.iol_core.proofs.core_value.Core.enqueue.Goals as goal

pub invariant_of-self : goal.invariant_of-self
invariant_of-self g c =
    let i = c.self.inside in
    let was = c.self.invariant in
    let command = value_of c.args.command in
    let queue = values i.queue.items in
    let old : CoreView =
    record {
      durable = i.durable;
      number = i.number;
      queue = queue;
      flight = i.flight;
      permits = i.permits.items;
      stopped = i.stopped;
      seen = i.pass;
    } in
    let passes : check (live old) command ≡ None =
    subst (λ (v : CoreView). check (live v) command ≡ None) (sym c.self.view_is) c.requires.passes in
    let room : queue_fault old ≡ None = subst (λ (v : CoreView). queue_fault v ≡ None) (sym c.self.view_is) c.requires.room in
    let more : values c.push_back.new.self.items ≡ queue ++ command ∷ [] =
    ap values c.in-Ok.ensures.items
    ∙ (map-append value_of i.queue.items (c.args.same ∷ []) ∙ ap (λ (last : CommandValue). queue ++ last ∷ []) c.requires.same) in (
      subst (λ (q : List CommandValue).
          IsCore g.F.Name.front.start
          (record {
            durable = i.durable;
            number = i.number;
            queue = q;
            flight = i.flight;
            permits = i.permits.items;
            stopped = i.stopped;
            seen = i.pass;
          }))
          (sym more) (queued_core g.F.Name.front.start old command was.0 passes room),
      c.apply.ensures ∙ (ap (λ (s : State). apply s command) was.1
          ∙ (sym (after_push i.durable queue command) ∙ ap (after i.durable) (sym more))),
      omega (arith, c.in-Ok.ensures.capacity, was.2),
    )

pub returns-clause-queued : goal.returns-clause-queued
returns-clause-queued g c =
    let i = c.self.inside in
    let command = value_of c.args.command in
    ap (λ (q : List CommandValue).
    record {
      durable = i.durable;
      number = i.number;
      queue = q;
      flight = i.flight;
      permits = i.permits.items;
      stopped = i.stopped;
      seen = i.pass;
    })
    (ap values c.in-Ok.ensures.items
    ∙ (map-append value_of i.queue.items (c.args.same ∷ [])
    ∙ ap (λ (last : CommandValue). values i.queue.items ++ last ∷ []) c.requires.same))
    ∙ ap (λ (v : CoreView). queued v command) c.self.view_is
