use Rattle.std.proofs.Common.{◌≡◌, ◌<◌, length, Some, None, refl, rules, arith}
use Rattle.toml.proofs.Views.{items_view-drop}
use Rattle.toml.specs.View.{view}
use Rattle.iol_script.proofs.InOrder.{said_in_order}
use Rattle.iol_script.specs.Parameter.{parameter_of, entry_of}
use Rattle.iol_script.proofs.parameters.read_parameters.Goals as goal

pub returns-in_err-parameter-clause-not_valid : goal.returns-in_err-parameter-clause-not_valid
returns-in_err-parameter-clause-not_valid c =
    let next_key = items_view-drop c.args.keys.now c.loop-place.place c.index-keys-place.result c.loop-place-test.true in
    let more : c.loop-place.place < length c.args.values.now = omega arith in
    let next_value = items_view-drop c.args.values.now c.loop-place.place c.index-values-place.result more in
    λ is.
    let none : parameter_of (view c.index-keys-place.result) (view c.index-values-place.result) ≡ None = search rules in
    rw (c.loop-place.invariant, next_key, next_value, ← c.index-keys-place.is, ← c.index-values-place.is, none) refl

pub loop-place-preserved : goal.loop-place-preserved
loop-place-preserved c =
    let next_key = items_view-drop c.args.keys.now c.loop-place.place c.index-keys-place.result c.loop-place-test.true in
    let more : c.loop-place.place < length c.args.values.now = omega arith in
    let next_value = items_view-drop c.args.values.now c.loop-place.place c.index-values-place.result more in
    let some : parameter_of (view c.index-keys-place.result) (view c.index-values-place.result)
    ≡ Some (entry_of c.in_ok-parameter.parameter)
    = search rules in
    rw (c.loop-place.invariant, next_key, next_value, ← c.index-keys-place.is, ← c.index-values-place.is, some, c.in_ok-push.ensures.items)
    (said_in_order entry_of c.loop-place.parameters.items c.in_ok-parameter.parameter _)
