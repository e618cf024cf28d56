use Rattle.std.proofs.Common.{◌≡◌, Some, None, refl, rules}
use Rattle.toml.proofs.Views.{items_view-drop}
use Rattle.toml.specs.View.{view}
use Rattle.iol_script.proofs.InOrder.{said_in_order}
use Rattle.iol_script.specs.Device.{device_of, said_device}
use Rattle.iol_script.proofs.devices.read_devices.Goals as goal

pub returns-in_err-device-clause-not_valid : goal.returns-in_err-device-clause-not_valid
returns-in_err-device-clause-not_valid c =
    let next = items_view-drop c.args.values.now c.loop-value.value-index c.value-item.result c.loop-value-test.true in
    λ is.
    let none : device_of (view c.value-item.result) ≡ None = search rules in
    rw (c.loop-value.invariant, next, ← c.value-item.is, none) refl

pub loop-value-preserved : goal.loop-value-preserved
loop-value-preserved c =
    let next = items_view-drop c.args.values.now c.loop-value.value-index c.value-item.result c.loop-value-test.true in
    let some : device_of (view c.value-item.result) ≡ Some (said_device c.in_ok-device.device) = search rules in
    rw (c.loop-value.invariant, next, ← c.value-item.is, some, c.in_ok-push.ensures.items)
    (said_in_order said_device c.loop-value.devices.items c.in_ok-device.device _)
