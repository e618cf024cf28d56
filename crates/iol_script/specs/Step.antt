-- What the steps of a script say in TOML.
use Rattle.std.specs.Prelude.{ℕ, ◌^◌, if◌then◌else◌, List, [], ◌∷◌, codes, Option, Some, None, option_and_then, option_map}
use Rattle.std.specs.Str.{bytes_eq}
use Rattle.toml.specs.Data.{Data, Members, as_table, as_str, get_member}
use Rattle.iol_types.specs.Config.{mode_of, validation_of}
use Rattle.iol_types.specs.Label.{is_label}
use Rattle.iol_types.specs.declared.config.PortConfig.{PortConfig}
use Rattle.iol_types.specs.declared.config.PortMode.{PortMode}
use Rattle.iol_types.specs.declared.config.Validation.{Validation}
use Rattle.iol_types.specs.declared.command.Change.{Change}
use Rattle.iol_types.specs.declared.command.Change.TheVariants as change
use Rattle.iol_script.specs.Number.{number_below, port_in, vendor_in, device_in, times_in}
use Rattle.iol_script.specs.Table.{text_at, has_only_keys}
use Rattle.iol_script.specs.declared.step.Step.{Step}
use Rattle.iol_script.specs.declared.step.Step.TheVariants.{Ask, Port, Flush, Drain}

-- the mode and the validation of a port (format, Scripts)
abbrev pub mode_in : Members → Option PortMode
mode_in table = option_and_then mode_of (number_below (2 ^ 8) (codes "mode") table)

abbrev pub validation_in : Members → Option Validation
validation_in table = option_and_then validation_of (number_below (2 ^ 8) (codes "validation") table)

-- these octets, if they are a label (own)
abbrev pub label_of : List ℕ → Option (List ℕ)
label_of octets = if is_label octets then Some octets else None

-- the label of a port: the octets of a text, or none if the key is missing (format, Scripts)
abbrev pub label_or_none : Option Data → Option (List ℕ)
label_or_none None = Some []
label_or_none (Some value) = option_and_then label_of (as_str value)

abbrev pub label_in : Members → Option (List ℕ)
label_in table = label_or_none (get_member (codes "label") table)

-- the configuration of a port in a table (format, Scripts)
abbrev pub config_in : Members → Option PortConfig
config_in table =
    option_and_then (λ mode.
    option_and_then (λ validation.
    option_and_then (λ vendor.
    option_and_then (λ device.
    option_map (λ label. record { mode = mode; validation = validation; vendor = vendor; device = device; label = label })
    (label_in table)) (device_in table)) (vendor_in table)) (validation_in table)) (mode_in table)

-- the keys of each kind of step; the kind itself is at the key `do` (format, Scripts)
abbrev pub configure_keys : List (List ℕ)
configure_keys =
    codes "do" ∷ codes "port" ∷ codes "mode" ∷ codes "validation" ∷ codes "vendor" ∷ codes "device" ∷ codes "label" ∷ []

abbrev pub clear_keys : List (List ℕ)
clear_keys = codes "do" ∷ codes "port" ∷ []

abbrev pub rollback_keys : List (List ℕ)
rollback_keys = codes "do" ∷ codes "port" ∷ []

abbrev pub port_keys : List (List ℕ)
port_keys = codes "do" ∷ codes "port" ∷ codes "times" ∷ []

abbrev pub flush_keys : List (List ℕ)
flush_keys = codes "do" ∷ codes "times" ∷ []

abbrev pub drain_keys : List (List ℕ)
drain_keys = codes "do" ∷ []

-- the change that a client requests, in a table of this kind (format, Scripts)
abbrev pub configure_in : Members → Option Change
configure_in table =
    if has_only_keys configure_keys table then
    option_and_then (λ port. option_map (λ config. change.Configure port config) (config_in table)) (port_in table)
    else None

abbrev pub clear_in : Members → Option Change
clear_in table = if has_only_keys clear_keys table then option_map change.Clear (port_in table) else None

abbrev pub rollback_in : Members → Option Change
rollback_in table = if has_only_keys rollback_keys table then option_map change.Rollback (port_in table) else None

-- the change that a client requests, by the kind of its table (format, Scripts)
abbrev pub change_of_kind : List ℕ → Members → Option Change
change_of_kind kind table =
    if bytes_eq kind (codes "configure") then configure_in table
    else if bytes_eq kind (codes "clear") then clear_in table
    else if bytes_eq kind (codes "rollback") then rollback_in table
    else None

-- a step that is not a client's, in a table of this kind (format, Scripts)
abbrev pub port_step_in : Members → Option Step
port_step_in table =
    if has_only_keys port_keys table then
    option_and_then (λ port. option_map (λ times. Port port times) (times_in table)) (port_in table)
    else None

abbrev pub flush_in : Members → Option Step
flush_in table = if has_only_keys flush_keys table then option_map Flush (times_in table) else None

abbrev pub drain_in : Members → Option Step
drain_in table = if has_only_keys drain_keys table then Some Drain else None

-- the step in a table, by its kind; any other kind is that of a change that a client requests (format, Scripts)
abbrev pub step_of_kind : List ℕ → Members → Option Step
step_of_kind kind table =
    if bytes_eq kind (codes "port") then port_step_in table
    else if bytes_eq kind (codes "flush") then flush_in table
    else if bytes_eq kind (codes "drain") then drain_in table
    else option_map Ask (change_of_kind kind table)

-- the step in a table, by its kind at the key `do` (format, Scripts)
abbrev pub step_in : Members → Option Step
step_in table = option_and_then (λ kind. step_of_kind kind table) (text_at (codes "do") table)

-- the step in a value (format, Scripts)
abbrev pub step_of : Data → Option Step
step_of value = option_and_then (λ table. option_and_then (λ kind. step_of_kind kind table) (text_at (codes "do") table)) (as_table value)
