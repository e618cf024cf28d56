use Rattle.std.proofs.Common.{◌≡◌, ◌<◌, ◌+◌, ℕ, length, true, take, sym, ap, ◌∙◌, subst, rules}
use Rattle.std.proofs.lemmas.List.{length-map}
use Rattle.iol_core.specs.Batches.{IsLongest, has_batch}
use Rattle.iol_types.specs.Command.{value_of}
use Rattle.iol_types.specs.State.{legal}
use Rattle.iol_journal.specs.Body.{values}
use Rattle.iol_core.specs.Core.{CoreView}
use Rattle.iol_core.proofs.Queues.{legal_parts, some_waits}
use Rattle.iol_core.proofs.core_value.Core.take_batch.Goals as goal

pub invariant_of-self : goal.invariant_of-self
invariant_of-self g c =
    let was = c.self.invariant.0 in (
      record {
        stands = was.stands;
        legal = was.legal;
        few = was.few;
        bound = was.bound;
        flight = c.longest-count.ensures.longest.within;
        places = was.places;
        permits = was.permits;
      },
      c.self.invariant.1,
      c.self.invariant.2,
    )

pub returns-clause-legal : goal.returns-clause-legal
returns-clause-legal g c =
    let inside = c.self.inside in
    let legal_all = c.self.invariant.0.legal in
    let here = (legal_parts inside.durable (values inside.queue.items) c.longest-count.result legal_all).0 in
    let front : legal inside.durable (values c.in_ok-commands.commands.items) ≡ true = ap (legal inside.durable) c.in_ok-commands.ensures
    ∙ here in
    subst (λ (v : CoreView). legal v.durable (values c.in_ok-commands.commands.items) ≡ true) c.self.view_is front

pub returns-clause-take : goal.returns-clause-take
returns-clause-take g c =
    let there : has_batch c.args.self.now ≡ true = search rules in
    let waits : 0 < length c.self.inside.queue.items =
    subst (λ (n : ℕ). 0 < n) (length-map c.self.inside.queue.items value_of)
    (subst (λ (v : CoreView). 0 < length v.queue) (sym c.self.view_is) (some_waits c.args.self.now there)) in record {
      there = there;
      longest = subst (λ (v : CoreView). IsLongest c.args.room v.queue c.longest-count.result) c.self.view_is
          c.longest-count.ensures.longest;
      some = c.longest-count.ensures.some waits;
      first = ap (λ (v : CoreView). v.number + 1) c.self.view_is;
      commands = c.in_ok-commands.ensures ∙ ap (λ (v : CoreView). take c.longest-count.result v.queue) c.self.view_is;
      others = ap (λ (v : CoreView). record v { flight = c.longest-count.result }) c.self.view_is;
    }
