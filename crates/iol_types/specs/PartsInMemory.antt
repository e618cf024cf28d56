-- Parts in memory, and the parts that they represent.
use Rattle.std.specs.Prelude.{ℕ, List, map, Vec}
use Rattle.std.specs.declared.alloc.Global.{Global}
use Rattle.iol_types.specs.Parts.{PartsValue}
use Rattle.iol_types.specs.declared.parts.Parts.TheInside.{Inside}

-- the octets of texts in memory (own)
abbrev pub octets_of_each : List (Vec ℕ Global) → List (List ℕ)
octets_of_each texts = map (λ text. text.items) texts

-- the parts that the memory represents (own)
abbrev pub parts_in : Inside → PartsValue
parts_in parts = record { full = octets_of_each parts.full.items; last = parts.last.items }
