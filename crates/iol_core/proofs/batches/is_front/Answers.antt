use Rattle.std.proofs.Common.{◌≡◌, ◌≤◌, ◌+◌, ◌∷◌, [], ◌++◌, ℕ, List, length, take, refl, sym, ap, ◌∙◌, length-take-le, arith, rules}
use Rattle.std.proofs.Math.Seq.{take-length}
use Rattle.std.proofs.lemmas.List.{length-map}
use Rattle.iol_types.specs.Command.{CommandValue, value_of}
use Rattle.iol_journal.specs.Body.{values}
use Rattle.iol_core.proofs.Queues.{values_more, take_found}
use Rattle.iol_core.proofs.batches.is_front.Goals as goal

pub loop-place-preserved : goal.loop-place-preserved
loop-place-preserved g c =
    let queue = c.args.queue.now.items in
    let i = c.loop-place.place in
    let command = value_of c.in-Some.command.now in
    let same : command ≡ value_of c.index.result.now = c.is_same.ensures.0 (search rules) in
    let more : take (i + 1) (values queue) ≡ take i (values queue) ++ value_of c.index.result.now ∷ [] =
    values_more queue i c.index.result.now (omega arith) (sym c.index.ensures) in
    take_found c.args.committed.now.commands i command c.in-Some.ensures
    ∙ (ap (λ (front : List CommandValue). front ++ command ∷ []) c.loop-place.invariant
    ∙ (ap (λ (last : CommandValue). take i (values queue) ++ last ∷ []) same ∙ sym more))

pub returns : goal.returns
returns g c =
    let queue = values c.args.queue.now.items in
    let commands = c.args.committed.now.commands in
    let end : c.loop-place.place ≡ c.args.count = omega arith in
    let all : length commands ≡ c.loop-place.place = omega arith in
    let front : commands ≡ take c.args.count queue = sym (take-length commands)
    ∙ (ap (λ (n : ℕ). take n commands) all ∙ (c.loop-place.invariant ∙ ap (λ (n : ℕ). take n queue) end)) in
    (λ _. front, λ _. refl)

pub returns-then-len-count : goal.returns-then-len-count
returns-then-len-count g c =
    let queue = values c.args.queue.now.items in
    let inside : c.args.count ≤ length queue = omega (arith, c.requires, length-map c.args.queue.now.items value_of) in (
      λ no. absurd cc,
      λ front. absurd (c.if-len-count.true (c.len.ensures ∙ (ap length front ∙ length-take-le c.args.count queue inside))),
    )
