-- The id of a request, which its answer repeats.
use Rattle.std.specs.Prelude.{ℕ, List, string_bytes}
use Rattle.iol_requests.specs.declared.id.Id.{Id}
use Rattle.iol_requests.specs.declared.id.Id.TheVariants.{Number, Text}

-- the id of a request: a number, or the octets of a text (format, Requests)
pub data IdValue : Type 0 where
  id_number : ℕ → IdValue
  id_text : List ℕ → IdValue

abbrev pub id_value : Id → IdValue
id_value (Number number) = id_number number
id_value (Text text) = id_text (string_bytes text)
