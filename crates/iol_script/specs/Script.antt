-- What a script says in TOML.
use Rattle.std.specs.Prelude.{ℕ, ℤ, pos, negsuc, Bool, true, false, ◌&&◌, ◌≤◌, nat_le, if◌then◌else◌, List, [], ◌∷◌, length, codes, IsUtf8}
use Rattle.std.specs.Prelude.{Option, None, option_and_then, option_map}
use Rattle.std.specs.List.{list_all}
use Rattle.toml.specs.Data.{Items, Members}
use Rattle.toml.specs.Parse.{parse_document}
use Rattle.iol_script.specs.Table.{integer_at, values_at, has_only_keys}
use Rattle.iol_script.specs.Fail.{fail_in}
use Rattle.iol_script.specs.declared.fail.FailingCall.{FailingCall}
use Rattle.iol_script.specs.Device.{SaidDevice}
use Rattle.iol_script.specs.Devices.{devices_of, said_devices}
use Rattle.iol_script.specs.Steps.{before_stop, steps_of}
use Rattle.iol_script.specs.declared.script.Script.{Script}
use Rattle.iol_script.specs.declared.script.TheConstants.{SCRIPT_OCTETS}
use Rattle.iol_script.specs.declared.step.Step.{Step}
use Rattle.iol_script.specs.declared.step.Step.TheVariants.{Ask, Port, Flush, Drain}
use Rattle.iol_disk.specs.declared.pick.Pick.{Pick}

-- what a script says: two numbers, the disk call that fails, the devices, the steps before the stop, and what the stop
-- keeps (format, Scripts)
pub record Said : Type 0 where
  pub ports : ℤ
  pub slots : ℤ
  pub fail : Option FailingCall
  pub devices : List SaidDevice
  pub steps : List Step
  pub keep : Pick

-- the keys of a script (format, Scripts)
abbrev pub script_keys : List (List ℕ)
script_keys = codes "ports" ∷ codes "slots" ∷ codes "fail" ∷ codes "device" ∷ codes "step" ∷ []

-- what these numbers, failing call, devices and values of steps say together (format, Scripts)
abbrev pub said_with : ℤ → ℤ → Option FailingCall → List SaidDevice → Items → Option Said
said_with ports slots fail devices values =
    option_map (λ steps. record {
      ports = ports;
      slots = slots;
      fail = fail;
      devices = devices;
      steps = steps;
      keep = (before_stop values).1;
    }) (steps_of (before_stop values).0)

-- what a table says, if it is the table of a script (format, Scripts)
abbrev pub said_by : Members → Option Said
said_by table =
    if has_only_keys script_keys table then
    option_and_then (λ ports.
    option_and_then (λ slots.
    option_and_then (λ fail.
    option_and_then (λ devices.
    option_and_then (λ values. said_with ports slots fail devices values)
    (values_at (codes "step") table)) (option_and_then devices_of (values_at (codes "device") table))) (fail_in table))
    (integer_at (codes "slots") table)) (integer_at (codes "ports") table)
    else None

-- what a text says, if it is TOML and a script (format, Scripts)
abbrev pub said_in : List ℕ → Option Said
said_in text = option_and_then said_by (parse_document text)

-- a text that may be a script: UTF-8 of at most 65,536 octets (format, Scripts)
pub record IsText (text : List ℕ) : Type 0 where
  pub short : length text ≤ SCRIPT_OCTETS
  pub utf8 : IsUtf8 text

-- what a script that was read says (format, Scripts)
abbrev pub said_of : Script → Said
said_of script = record {
  ports = script.ports;
  slots = script.slots;
  fail = script.fail;
  devices = said_devices script.devices.items;
  steps = script.steps.items;
  keep = script.keep;
}

-- a port is one of the first `ports` (own)
abbrev pub is_port_of : ℤ → ℕ → Bool
is_port_of (pos ports) port = nat_le port ports
is_port_of (negsuc n) port = false

-- a step of a port is at one of the first `ports`; every other step fits, because a command for another port is refused when it comes
-- (format, Scripts)
abbrev pub step_fits : ℤ → Step → Bool
step_fits ports (Port port times) = is_port_of ports port
step_fits ports (Ask change) = true
step_fits ports (Flush times) = true
step_fits ports Drain = true

-- all devices and all steps of ports are at ports of the script (format, Scripts)
abbrev pub fits_ports : Said → Bool
fits_ports said =
    list_all (λ (device : SaidDevice). is_port_of said.ports device.port) said.devices && list_all (step_fits said.ports) said.steps
