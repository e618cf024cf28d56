-- The request of a table, whose members are `do`, with a verb, and the keys of that verb.
use Rattle.std.specs.Prelude.{ℕ, if◌then◌else◌, List, [], ◌∷◌, codes, Option, Some, None, option_and_then, option_map}
use Rattle.toml.specs.Data.{Data, Members, get_member}
use Rattle.iol_script.specs.LiveScript.{change_in}
use Rattle.iol_script.specs.Number.{port_in}
use Rattle.iol_script.specs.Table.{has_only_keys, text_at}
use Rattle.iol_requests.specs.Verb.{verb_of}
use Rattle.iol_requests.specs.declared.verb.Verb.{Verb}
use Rattle.iol_requests.specs.declared.verb.Verb.TheVariants as verb
use Rattle.iol_requests.specs.declared.request.Request.{Request}
use Rattle.iol_requests.specs.declared.request.Request.TheVariants.{Ask, Read, Status, Help, Quit}

-- the verb of a table, at its key `do` (format, Requests)
abbrev pub verb_at : Members → Option Verb
verb_at table = option_and_then verb_of (text_at (codes "do") table)

-- the keys of a request for one port, and of a request without a port (format, Requests)
abbrev pub port_keys : List (List ℕ)
port_keys = codes "do" ∷ codes "port" ∷ []

abbrev pub verb_alone : List (List ℕ)
verb_alone = codes "do" ∷ []

-- the request to read the port of a table (format, Requests)
abbrev pub read_in : Members → Option Request
read_in table = if has_only_keys port_keys table then option_map Read (port_in table) else None

-- the port of a table, which may be missing (format, Requests)
abbrev pub port_if : Option Data → Members → Option (Option ℕ)
port_if None table = Some None
port_if (Some value) table = option_map Some (port_in table)

-- the request for the status of the port of a table, or of all ports (format, Requests)
abbrev pub status_in : Members → Option Request
status_in table =
    if has_only_keys port_keys table then option_map Status (port_if (get_member (codes "port") table) table) else None

-- this request, if a table has only its verb (format, Requests)
abbrev pub alone_in : Request → Members → Option Request
alone_in request table = if has_only_keys verb_alone table then Some request else None

-- the request of a table with a verb; a change is read like a step of a script (format, Requests)
abbrev pub request_by : Verb → Members → Option Request
request_by verb.Configure table = option_map Ask (change_in table)
request_by verb.Clear table = option_map Ask (change_in table)
request_by verb.Rollback table = option_map Ask (change_in table)
request_by verb.Read table = read_in table
request_by verb.Status table = status_in table
request_by verb.Help table = alone_in Help table
request_by verb.Quit table = alone_in Quit table

-- the request of a table (format, Requests)
abbrev pub request_in : Members → Option Request
request_in table = option_and_then (λ verb. request_by verb table) (verb_at table)
