-- Requests in JSON: an object with the members of a request's table, and an optional id.
use Rattle.std.specs.Prelude.{ℕ, ◌^◌, pos, Bool, true, false, not, ◌&&◌, nat_le, nat_lt, if◌then◌else◌, List, [], ◌∷◌, length, codes}
use Rattle.std.specs.Prelude.{Option, Some, None, option_and_then, option_map, unwrap_or}
use Rattle.std.specs.Cmp.Lexicographic.{slice_cmp}
use Rattle.std.specs.Ordering.{nat_cmp, match_ordering}
use Rattle.std.specs.Str.{bytes_eq, all_ascii_digits}
use Rattle.std.specs.Str.Parse.{digits_value}
use Rattle.json.specs.Find.{get}
use Rattle.json.specs.Json as json
use Rattle.json.specs.Json.{Json, document}
use Rattle.json.specs.Strict.{keys}
use Rattle.toml.specs.Data.{Data, integer, string, array, no_items, Members, no_members, member}
use Rattle.iol_script.specs.Table.{is_among}
use Rattle.iol_requests.specs.Id.{IdValue, id_number, id_text}
use Rattle.iol_requests.specs.Request.{request_in}
use Rattle.iol_requests.specs.declared.id.TheConstants.{MOST_ID_OCTETS}
use Rattle.iol_requests.specs.declared.request.Request.{Request}

-- the whole number that digits write, of 0 to 2^63 - 1 (format, Requests)
abbrev pub number_in : List ℕ → Option ℕ
number_in digits =
    if all_ascii_digits digits && nat_lt 0 (length digits) && nat_lt (digits_value 10 digits) (2 ^ 63)
    then Some (digits_value 10 digits) else None

-- a value of TOML that no key allows (own)
abbrev pub no_value : Data
no_value = array no_items

-- a value of JSON as one of TOML: a text, or a whole number from 0 on; no key allows any other (format, Requests)
abbrev pub number_value : Option ℕ → Data
number_value (Some number) = integer (pos number)
number_value None = no_value

abbrev pub value_of : Json → Data
value_of (json.number digits) = number_value (number_in digits)
value_of (json.string text) = string text
value_of _ = no_value

-- a table with this value at a key; its keys are in ascending order (TOML)
abbrev pub put : List ℕ → Data → Members → Members
put key value no_members = member key value no_members
put key value (member other there others) =
    match_ordering (slice_cmp nat_cmp key other) (member key value (member other there others)) (member other value others)
    (member other there (put key value others))

-- a table with a member of an object, unless it is the id (format, Requests)
abbrev pub with_member : List ℕ → Json → Members → Members
with_member key value table = if bytes_eq key (codes "id") then table else put key (value_of value) table

-- a table with the members of an object added one after another (format, Requests)
abbrev pub table_with : json.Members → Members → Members
table_with json.no_members table = table
table_with (json.member key value others) table = table_with others (with_member key value table)

-- all keys are distinct (format, Requests)
abbrev pub are_distinct : List (List ℕ) → Bool
are_distinct [] = true
are_distinct (key ∷ others) = not (is_among others key) && are_distinct others

-- the request of the members of an object (format, Requests)
abbrev pub request_with : json.Members → Option Request
request_with members =
    if are_distinct (keys members) then request_in (table_with members no_members) else None

-- the id in a value: a whole number, or a text of at most 64 octets (format, Requests)
abbrev pub id_of : Json → Option IdValue
id_of (json.number digits) = option_map id_number (number_in digits)
id_of (json.string text) = if nat_le (length text) MOST_ID_OCTETS then Some (id_text text) else None
id_of _ = None

-- the id of a value; it may be missing, but may not be any other value (format, Requests)
abbrev pub id_if : Option Json → Option (Option IdValue)
id_if None = Some None
id_if (Some value) = option_map Some (id_of value)

abbrev pub id_at : Json → Option (Option IdValue)
id_at value = id_if (get (codes "id") value)

-- a request, with the id that its answer repeats (own)
pub record Asking : Type 0 where
  pub id : Option IdValue
  pub request : Request

-- the request of a value, if it is an object (format, Requests)
abbrev pub request_of : Json → Option Request
request_of (json.object members) = request_with members
request_of _ = None

abbrev pub asking_of : Json → Option Asking
asking_of value =
    option_and_then (λ id. option_map (λ request. record { id = id; request = request }) (request_of value)) (id_at value)

-- the request of a text in JSON, with its id (format, Requests)
abbrev pub asked_in_json : List ℕ → Option Asking
asked_in_json text = option_and_then asking_of (document text)

-- the id of a text in JSON that is given back, if it is valid (format, Requests)
abbrev pub id_in_json : List ℕ → Option IdValue
id_in_json text = option_and_then (λ value. unwrap_or (id_at value) None) (document text)
