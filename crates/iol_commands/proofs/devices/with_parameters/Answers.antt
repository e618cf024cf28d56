use Rattle.std.proofs.Common.{◌≡◌, ℕ, List, take, None, sym, ap, subst, arith}
use Rattle.iol_script.specs.Parameters.{entries_of}
use Rattle.iol_sim.specs.Device.{Device}
use Rattle.iol_sim.specs.Parameters.{add_fault}
use Rattle.iol_commands.proofs.Accepted.{accepted, only_memory}
use Rattle.iol_types.specs.DataSet.{Entry}
use Rattle.iol_commands.proofs.devices.with_parameters.Goals as goal

pub out_of_memory-requires : goal.out_of_memory-requires
out_of_memory-requires c =
    let parameters = c.args.parameters.now in
    let place = c.loop-parameter.parameter-index in
    let item = c.parameter-item.result in
    let here : add_fault (entries_of (take place parameters)) item.key item.octets.items ≡ None =
    accepted parameters place item (omega arith) c.parameter-item.is c.requires.parameters in
    let read : add_fault (entries_of (take place parameters)) item.key c.as_slice.result.now ≡ None =
    subst (λ (octets : List ℕ). add_fault (entries_of (take place parameters)) item.key octets ≡ None) (sym c.as_slice.ensures.value)
    here in
    let none : add_fault c.loop-parameter.device.parameters item.key c.as_slice.result.now ≡ None =
    subst (λ (before : List Entry). add_fault before item.key c.as_slice.result.now ≡ None)
    (sym (ap (λ (device : Device). device.parameters) c.loop-parameter.invariant)) read in
    only_memory c.loop-parameter.device.parameters item.key c.as_slice.result.now c.in-Err.fault none c.in-Err.ensures.cause
