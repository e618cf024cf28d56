-- The keys of requests: which of them a verb has, and which values are allowed at each.
use Rattle.std.specs.Prelude.{◌≡◌, ℕ, Bool, true, false, not, ◌&&◌, is_some, List, [], ◌∷◌, codes, Option, Some, None, find}
use Rattle.toml.specs.Data.{Members, get_member}
use Rattle.iol_script.specs.Number.{port_in, vendor_in, device_in}
use Rattle.iol_script.specs.Step.{mode_in, validation_in, label_in, configure_keys}
use Rattle.iol_script.specs.Table.{has_only_keys, text_at}
use Rattle.iol_requests.specs.Request.{verb_at, port_keys, verb_alone}
use Rattle.iol_requests.specs.declared.key.Key.{Key}
use Rattle.iol_requests.specs.declared.key.Key.TheVariants.{Do, Port, Mode, Validation, Vendor, Device, Label, Id}
use Rattle.iol_requests.specs.declared.key.Use.{Use}
use Rattle.iol_requests.specs.declared.key.Use.TheVariants.{Needed, Free, Never}
use Rattle.iol_requests.specs.declared.verb.Verb.{Verb}
use Rattle.iol_requests.specs.declared.verb.Verb.TheVariants as verb
use Rattle.iol_requests.specs.declared.mistake.Fault.{Fault}
use Rattle.iol_requests.specs.declared.mistake.Fault.TheVariants as fault

-- the word of a key (format, Requests)
abbrev pub key_name : Key → List ℕ
key_name Do = codes "do"
key_name Port = codes "port"
key_name Mode = codes "mode"
key_name Validation = codes "validation"
key_name Vendor = codes "vendor"
key_name Device = codes "device"
key_name Label = codes "label"
key_name Id = codes "id"

-- all keys, in the order in which they are checked (format, Requests)
abbrev pub all_keys : List Key
all_keys = Do ∷ Port ∷ Mode ∷ Validation ∷ Vendor ∷ Device ∷ Label ∷ Id ∷ []

-- the keys of a verb, including `do` (format, Requests)
abbrev pub keys_of : Verb → List (List ℕ)
keys_of verb.Configure = configure_keys
keys_of verb.Clear = port_keys
keys_of verb.Rollback = port_keys
keys_of verb.Read = port_keys
keys_of verb.Status = port_keys
keys_of verb.Help = verb_alone
keys_of verb.Quit = verb_alone

-- whether a verb needs a key, may have it, or never has it; an `id` belongs to the line (format, Requests)
abbrev pub port_use : Use → Key → Use
port_use of_port Do = Needed
port_use of_port Port = of_port
port_use of_port _ = Never

abbrev pub configure_use : Key → Use
configure_use Label = Free
configure_use Id = Never
configure_use _ = Needed

abbrev pub use_of : Verb → Key → Use
use_of verb.Configure key = configure_use key
use_of verb.Clear key = port_use Needed key
use_of verb.Rollback key = port_use Needed key
use_of verb.Read key = port_use Needed key
use_of verb.Status key = port_use Free key
use_of verb.Help key = port_use Never key
use_of verb.Quit key = port_use Never key

-- the value at a key is allowed, by the same rules as in scripts (format, Requests)
abbrev pub is_right : Key → Members → Bool
is_right Do table = is_some (verb_at table)
is_right Port table = is_some (port_in table)
is_right Mode table = is_some (mode_in table)
is_right Validation table = is_some (validation_in table)
is_right Vendor table = is_some (vendor_in table)
is_right Device table = is_some (device_in table)
is_right Label table = is_some (label_in table)
is_right Id table = true

-- a key is missing, or its value is not allowed (format, Requests)
abbrev pub is_wrong_in : Use → Key → Members → Bool
is_wrong_in Needed key table = not (is_right key table)
is_wrong_in Free key table = is_some (get_member (key_name key) table) && not (is_right key table)
is_wrong_in Never key table = false

abbrev pub is_wrong : Verb → Members → Key → Bool
is_wrong verb table key = is_wrong_in (use_of verb key) key table

-- the first key of a table with a verb that is missing, or whose value is not allowed (format, Requests)
abbrev pub wrong_key : Verb → Members → Option Key
wrong_key verb table = find (is_wrong verb table) all_keys

-- a table with a verb has this fault (format, Requests)
abbrev pub IsFaultOf : Verb → Members → Fault → Type 0
IsFaultOf verb table (fault.UnknownKey of word meant) = (of ≡ verb) × (has_only_keys (keys_of verb) table ≡ false)
IsFaultOf verb table (fault.Missing key) = (wrong_key verb table ≡ Some key) × (get_member (key_name key) table ≡ None)
IsFaultOf verb table (fault.WrongValue key) = (wrong_key verb table ≡ Some key) × (is_some (get_member (key_name key) table) ≡ true)
IsFaultOf verb table _ = ⊥

-- a fault reports a word that is no verb (format, Requests)
abbrev pub IsOfVerb : Fault → Type 0
IsOfVerb (fault.UnknownVerb word meant) = Unit {0}
IsOfVerb _ = ⊥

-- a table whose `do` is no verb has this fault (format, Requests)
abbrev pub IsFaultOfVerb : Members → Fault → Type 0
IsFaultOfVerb table (fault.UnknownVerb word meant) = is_some (text_at (codes "do") table) ≡ true
IsFaultOfVerb table (fault.Missing Do) = get_member (codes "do") table ≡ None
IsFaultOfVerb table (fault.WrongValue Do) =
    (is_some (get_member (codes "do") table) ≡ true) × (text_at (codes "do") table ≡ None)
IsFaultOfVerb table _ = ⊥

-- a table that is no request has this fault (format, Requests)
abbrev pub IsFaultWith : Option Verb → Members → Fault → Type 0
IsFaultWith (Some verb) table fault = IsFaultOf verb table fault
IsFaultWith None table fault = IsFaultOfVerb table fault

abbrev pub IsFaultIn : Members → Fault → Type 0
IsFaultIn table fault = IsFaultWith (verb_at table) table fault
