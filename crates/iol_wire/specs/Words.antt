-- The words of octets.
use Rattle.std.specs.Prelude.{ℕ, ◌==◌, nat_lt, Bool, List, length, filter}
use Rattle.std.specs.List.{slice_split}
use Rattle.iol_wire.specs.declared.words.TheConstants.{BLANK}

-- the blank between words (own)
abbrev pub is_blank : ℕ → Bool
is_blank octet = octet == BLANK

-- the words of octets: the parts between blanks that have at least one octet (own)
abbrev pub words : List ℕ → List (List ℕ)
words octets = filter (λ word. nat_lt 0 (length word)) (slice_split is_blank octets)
