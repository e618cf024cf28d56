-- Each device of a script has parameters that a simulated device may have.
use Rattle.std.proofs.Common.{◌≡◌, ℕ, Bool, true, false, cond, List, [], ◌∷◌, codes, Option, Some, None, subst, ap}
use Rattle.std.specs.Prelude.{ℤ, All, option_and_then}
use Rattle.std.specs.List.{AllByRecursion}
use Rattle.std.proofs.lemmas.List.Elements.{All-from_recursion}
use Rattle.std.proofs.lemmas.Option.{option_and_then_some}
use Rattle.toml.specs.Data.{Data, Items, no_items, item, Members, as_table}
use Rattle.toml.specs.Parse.{parse_document}
use Rattle.iol_types.specs.DataSet.{Entry}
use Rattle.iol_script.specs.Device.{SaidDevice, device_keys, device_with, device_by, device_of}
use Rattle.iol_script.specs.Devices.{devices_of, said_devices}
use Rattle.iol_script.specs.Fail.{fail_in}
use Rattle.iol_script.specs.LiveScript.{SaidLive, changes_of, live_by, live_in, live_of}
use Rattle.iol_script.specs.Number.{port_in, vendor_in, device_in, octet_or, calls_at}
use Rattle.iol_script.specs.Parameters.{of_device, parameters_of, parameters_in}
use Rattle.iol_script.specs.Script.{Said, script_keys, said_with, said_by, said_in, said_of}
use Rattle.iol_script.specs.Steps.{before_stop, steps_of}
use Rattle.iol_script.specs.Table.{integer_at, values_at, has_only_keys, truth_or}
use Rattle.iol_script.specs.declared.device.Device.{Device}
use Rattle.iol_script.specs.declared.device.TheConstants.{USUAL_REVISION}
use Rattle.iol_script.specs.declared.fail.FailingCall.{FailingCall}
use Rattle.iol_script.specs.declared.live_script.LiveScript.{LiveScript}
use Rattle.iol_script.specs.declared.script.Script.{Script}
use Rattle.iol_sim.specs.Parameters.{AreParameters}
use Rattle.iol_commands.proofs.SaidParameters.{map_some, of_a_device}
use Rattle.iol_commands.specs.Devices.{MayVisit}

-- the parameters of a device are such parameters
abbrev IsSound : SaidDevice → Type 0
IsSound said = AreParameters said.parameters

-- what a test lets through is the value that was there
let_through : {A : Type 0} (test : Bool) (o : Option A) (y : A) → cond test o None ≡ Some y → o ≡ Some y
let_through true o y is = is
let_through false o y is = cc

-- ---- one device

parameters_sound : (table : Members) (parameters : List Entry) → parameters_in table ≡ Some parameters → AreParameters parameters
parameters_sound table parameters is =
    option_and_then_some _ (values_at (codes "keys") table) parameters is (λ keys _ rest.
    option_and_then_some _ (values_at (codes "values") table) parameters rest (λ values _ both.
    option_and_then_some of_device (parameters_of keys values) parameters both (λ all read sound.
    of_a_device keys values all parameters read sound)))

-- what a script says about a device besides its parameters leaves the parameters as they are
parameters_kept : (parameters : List Entry) (table : Members) (said : SaidDevice) → device_with parameters table ≡ Some said → parameters
    ≡ said.parameters
parameters_kept parameters table said is =
    option_and_then_some _ (port_in table) said is (λ port _ is.
    option_and_then_some _ (vendor_in table) said is (λ vendor _ is.
    option_and_then_some _ (device_in table) said is (λ device _ is.
    option_and_then_some _ (octet_or USUAL_REVISION (codes "revision") table) said is (λ revision _ is.
    option_and_then_some _ (truth_or true (codes "isdu") table) said is (λ isdu _ is.
    option_and_then_some _ (truth_or false (codes "flag") table) said is (λ flag _ is.
    option_and_then_some _ (truth_or false (codes "locked") table) said is (λ locked _ is.
    option_and_then_some _ (calls_at (codes "answers") table) said is (λ answers _ is.
    map_some _ (calls_at (codes "event") table) said is (λ event _ same.
    ap (λ (s : SaidDevice). s.parameters) same)))))))))

device_sound : (value : Data) (said : SaidDevice) → device_of value ≡ Some said → IsSound said
device_sound value said is =
    option_and_then_some device_by (as_table value) said is (λ table _ by.
    let through = let_through (has_only_keys device_keys table)
    (option_and_then (λ parameters. device_with parameters table) (parameters_in table)) said by in
    option_and_then_some (λ parameters. device_with parameters table) (parameters_in table) said through (λ parameters read whole.
    subst AreParameters (parameters_kept parameters table said whole) (parameters_sound table parameters read)))

-- ---- all devices

devices_sound : (values : Items) (devices : List SaidDevice) → devices_of values ≡ Some devices → AllByRecursion IsSound devices
devices_sound no_items devices is =
    let none : ◌≡◌ {A = List SaidDevice} [] devices = cc in
    subst (AllByRecursion IsSound) none tt
devices_sound (item value values) devices is =
    option_and_then_some _ (device_of value) devices is (λ device first rest.
    map_some (λ (others : List SaidDevice). device ∷ others) (devices_of values) devices rest (λ others more same.
    subst (AllByRecursion IsSound) same (device_sound value device first, devices_sound values others more)))

-- what a script says besides its devices leaves the devices as they are
devices_kept : (ports slots : ℤ) (fail : Option FailingCall) (devices : List SaidDevice) (values : Items) (said : Said)
    → said_with ports slots fail devices values ≡ Some said → devices ≡ said.devices
devices_kept ports slots fail devices values said is =
    map_some _ (steps_of (before_stop values).0) said is (λ steps _ same. ap (λ (s : Said). s.devices) same)

-- the devices of a script are those in the values of its table
said_sound : (said : Said) (values : Option Items) (devices : List SaidDevice) → option_and_then devices_of values ≡ Some devices
    → devices ≡ said.devices → AllByRecursion IsSound said.devices
said_sound said values devices there same =
    option_and_then_some devices_of values devices there (λ items _ each.
    subst (AllByRecursion IsSound) same (devices_sound items devices each))

table_sound : (table : Members) (said : Said) → said_by table ≡ Some said → AllByRecursion IsSound said.devices
table_sound table said is =
    let values = values_at (codes "device") table in
    option_and_then_some _ (integer_at (codes "ports") table) said (let_through (has_only_keys script_keys table) _ said is) (λ ports _ is.
    option_and_then_some _ (integer_at (codes "slots") table) said is (λ slots _ is.
    option_and_then_some _ (fail_in table) said is (λ fail _ is.
    option_and_then_some _ (option_and_then devices_of values) said is (λ devices there is.
    option_and_then_some _ (values_at (codes "step") table) said is (λ steps _ is.
    said_sound said values devices there (devices_kept ports slots fail devices steps said is))))))

-- the same for a script for a master that runs in threads
live_sound : (table : Members) (said : SaidLive) → live_by table ≡ Some said → AllByRecursion IsSound said.devices
live_sound table said is =
    let values = values_at (codes "device") table in
    option_and_then_some _ (option_and_then devices_of values) said (let_through (has_only_keys script_keys table) _ said is)
    (λ devices there is.
    map_some _ (option_and_then changes_of (values_at (codes "step") table)) said is (λ changes _ same.
    option_and_then_some devices_of values devices there (λ items _ each.
    subst (AllByRecursion IsSound) (ap (λ (s : SaidLive). s.devices) same) (devices_sound items devices each))))

-- ---- a script that was read

unsaid : (devices : List Device) → AllByRecursion IsSound (said_devices devices) → AllByRecursion MayVisit devices
unsaid [] all = tt
unsaid (device ∷ devices) all = (all.0, unsaid devices all.1)

pub may_visit : (text : List ℕ) (script : Script) → said_in text ≡ Some (said_of script) → All MayVisit script.devices.items
may_visit text script is =
    option_and_then_some said_by (parse_document text) (said_of script) is (λ table _ said.
    All-from_recursion MayVisit script.devices.items (unsaid script.devices.items (table_sound table (said_of script) said)))

pub may_visit_live : (text : List ℕ) (script : LiveScript) → live_in text ≡ Some (live_of script) → All MayVisit script.devices.items
may_visit_live text script is =
    option_and_then_some live_by (parse_document text) (live_of script) is (λ table _ said.
    All-from_recursion MayVisit script.devices.items (unsaid script.devices.items (live_sound table (live_of script) said)))
