use Rattle.std.proofs.Common.{◌≡◌, ◌∷◌, is_none, take, sym, ap, ◌∙◌, rules}
use Rattle.std.proofs.lemmas.Bool.{and_parts}
use Rattle.iol_types.specs.Command.{value_of}
use Rattle.iol_types.specs.State.{State, apply, after, check, legal}
use Rattle.iol_journal.specs.Body.{values}
use Rattle.iol_core.proofs.Queues.{first_left, after_push}
use Rattle.iol_core.proofs.batches.apply_front.Goals as goal

pub loop-done-preserved : goal.loop-done-preserved
loop-done-preserved c =
    let was = c.loop-done.invariant in
    let i = c.loop-done._done in
    let state = c.loop-done.durable in
    let first = c.args.durable.now in
    let all = values c.args.queue.now.items in
    let command = value_of c.in-Some.command in
    let others = values c.pop_front.new.self.items in
    let cut : values c.loop-done.queue.items ≡ command ∷ others = ap values c.in-Some.ensures.items in
    let next = first_left all i command others (sym was.queue ∙ cut) in
    let passes = and_parts (is_none (check state command)) (legal (apply state command) others) (ap (legal state) (sym cut) ∙ was.legal) in
    record {
      durable = c.apply.ensures
          ∙ (ap (λ (s : State). apply s command) was.durable
          ∙ (sym (after_push first (take i all) command) ∙ ap (after first) (sym next.0)));
      queue = sym next.1;
      legal = ap (λ (s : State). legal s others) c.apply.ensures ∙ passes.1;
      room = search rules;
    }
