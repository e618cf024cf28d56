use Rattle.std.proofs.Common.{◌≡◌, ◌∙◌, ℤ, Bool, true, false, ◌&&◌, List, [], ◌∷◌, refl, rules, tests}
use Rattle.std.specs.List.{list_all}
use Rattle.std.proofs.lemmas.Iterator.{YieldsList-from_slice}
use Rattle.std.proofs.lemmas.Iterator.Search.{all_from_yields_List}
use Rattle.iol_script.specs.Device.{SaidDevice}
use Rattle.iol_script.specs.Devices.{said_devices}
use Rattle.iol_script.specs.declared.device.Device.{Device}
use Rattle.iol_script.specs.Script.{is_port_of, step_fits}
use Rattle.iol_script.proofs.script.Script.fits_ports.Goals as goal

-- a device that was read is at the port that its script says
at_the_ports : (ports : ℤ) (devices : List Device)
    → list_all (λ (device : Device). is_port_of ports device.port) devices
    ≡ list_all (λ (device : SaidDevice). is_port_of ports device.port) (said_devices devices)
at_the_ports ports [] = refl
at_the_ports ports (device ∷ devices) = rw (at_the_ports ports devices)

-- a second test has the result of both if the first one passes
both_fit : (first second devices steps : Bool) → first ≡ devices → first ≡ true → second ≡ steps → second ≡ (devices && steps)
both_fit first second devices steps same fits other = rw (← same, fits) other

first_fails : (first devices steps : Bool) → first ≡ devices → first ≡ false → first ≡ (devices && steps)
first_fails first devices steps same fails = rw (← same, fails) refl

pub returns-then-all : goal.returns-then-all
returns-then-all c =
    let script = c.args.self.now in
    let devices = all_from_yields_List (λ (device : Device). is_port_of script.ports device.port) _ _ c.all.result c.all.ensures.ran
    (YieldsList-from_slice script.devices.items cc) (λ x b q k. search (rules, tests))
    ∙ at_the_ports script.ports script.devices.items in
    let steps = all_from_yields_List (step_fits script.ports) _ _ c.all-then-all.result c.all-then-all.ensures.ran
    (YieldsList-from_slice script.steps.items cc) (λ x b q k. search (rules, tests)) in
    both_fit c.all.result c.all-then-all.result _ _ devices c.if-all.true steps

pub returns-else-all : goal.returns-else-all
returns-else-all c =
    let script = c.args.self.now in
    let devices = all_from_yields_List (λ (device : Device). is_port_of script.ports device.port) _ _ c.all.result c.all.ensures.ran
    (YieldsList-from_slice script.devices.items cc) (λ x b q k. search (rules, tests))
    ∙ at_the_ports script.ports script.devices.items in
    first_fails c.all.result _ (list_all (step_fits script.ports) script.steps.items) devices c.if-all.false
