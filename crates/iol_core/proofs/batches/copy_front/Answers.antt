use Rattle.std.proofs.Common.{◌≡◌, ◌+◌, ◌∷◌, [], ◌++◌, List, take, sym, ap, ◌∙◌, arith}
use Rattle.std.proofs.lemmas.List.{map-append}
use Rattle.iol_types.specs.Command.{CommandValue, value_of}
use Rattle.iol_journal.specs.Body.{values}
use Rattle.iol_core.proofs.Queues.{values_more}
use Rattle.iol_core.proofs.batches.copy_front.Goals as goal

pub loop-place-preserved : goal.loop-place-preserved
loop-place-preserved c =
    let queue = c.args.queue.now.items in
    let i = c.loop-place.place in
    let copied = c.in_ok-copy.field-0 in
    let more : take (i + 1) (values queue) ≡ take i (values queue) ++ value_of c.index.result.now ∷ [] =
    values_more queue i c.index.result.now (omega arith) (sym c.index.ensures) in
    ap values c.in_ok-push.ensures.items
    ∙ (map-append value_of c.loop-place.commands.items (copied ∷ [])
    ∙ (ap (λ (front : List CommandValue). front ++ value_of copied ∷ []) c.loop-place.invariant
    ∙ (ap (λ (last : CommandValue). take i (values queue) ++ last ∷ []) c.in_ok-copy.ensures.copy ∙ sym more)))
