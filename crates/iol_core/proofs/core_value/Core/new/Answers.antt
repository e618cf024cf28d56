use Rattle.std.proofs.Common.{◌≡◌, ◌≤◌, ◌+◌, ℕ, List, [], length, None, replicate, sym, ap, ◌∙◌, subst}
use Rattle.iol_types.specs.Command.{CommandValue}
use Rattle.iol_types.specs.State.{after}
use Rattle.iol_journal.specs.Body.{values}
use Rattle.iol_journal.specs.Numbers.{LAST_NUMBER}
use Rattle.iol_core.specs.Core.{IsCore}
use Rattle.iol_core.proofs.Keeping.{new_core}
use Rattle.iol_core.proofs.core_value.Core.new.Goals as goal

pub invariant_of-result : goal.invariant_of-result
invariant_of-result g c =
    let start = g.F.Name.front.start in
    let permits = c.in_ok-live.permits.items in
    let none : permits ≡ replicate (length c.args.state) None = c.in_ok-live.ensures.permits in
    let count : c.count-number.result ≡ start.number + length c.args.pass = c.count-number.ensures.count in
    let bound : start.number + length c.args.pass ≤ LAST_NUMBER = subst (λ (n : ℕ). n ≤ LAST_NUMBER) count c.count-number.ensures.bound in
    let empty : values c.in_ok-live.queue.items ≡ [] = c.in_ok-live.ensures.queue in (
      subst (λ (n : ℕ). IsCore start
          (record {
            durable = c.args.state;
            number = n;
            queue = values c.in_ok-live.queue.items;
            flight = 0;
            permits = permits;
            stopped = None;
            seen = c.args.pass;
          }))
          (sym count)
          (subst (λ (queue : List CommandValue).
          IsCore start (record {
            durable = c.args.state;
            number = start.number + length c.args.pass;
            queue = queue;
            flight = 0;
            permits = permits;
            stopped = None;
            seen = c.args.pass;
          }))
          (sym empty) (new_core start c.args.pass c.args.state permits c.requires bound none)),
      c.in_ok-live.ensures.live ∙ sym (ap (after c.args.state) empty),
      c.in_ok-live.ensures.room,
    )
