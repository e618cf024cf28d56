use Rattle.std.proofs.Common.{◌≡◌, Some, None, refl, rules}
use Rattle.toml.proofs.Views.{items_view-drop}
use Rattle.iol_script.proofs.InOrder.{appended_in_order}
use Rattle.iol_script.proofs.steps.read_steps.Goals as goal

pub returns-in_err-step-clause-not_valid : goal.returns-in_err-step-clause-not_valid
returns-in_err-step-clause-not_valid c =
    let next = items_view-drop c.args.values.now c.loop-value.value-index c.value-item.result c.loop-value-test.true in
    let none : c.read.result ≡ None = search rules in
    rw (c.loop-value.invariant, next, ← c.value-item.is, ← c.read.ensures, none) (λ _. refl)

pub loop-value-preserved : goal.loop-value-preserved
loop-value-preserved c =
    let next = items_view-drop c.args.values.now c.loop-value.value-index c.value-item.result c.loop-value-test.true in
    let some : c.read.result ≡ Some c.in_ok-step.step = search rules in
    let same : c.match-branch-3.step ≡ c.in_ok-step.step = search rules in
    rw (c.loop-value.invariant, next, ← c.value-item.is, ← c.read.ensures, some, ← same, c.in_ok-push.ensures.items)
    (appended_in_order c.loop-value.steps.items c.match-branch-3.step _)
