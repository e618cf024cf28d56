-- The octets of a label.
use Rattle.std.specs.Prelude.{◌≡◌, ◌≤◌, ◌++◌, ◌-◌, ◌==◌, nat_le, ◌&&◌, not, ℕ, Bool, true, List, length, replicate, take}
use Rattle.std.specs.List.{list_all}
use Rattle.iol_types.specs.declared.label.TheConstants.{MOST_LABEL_OCTETS, QUOTATION_MARK, FIRST_PRINTED, LAST_PRINTED}

-- an octet is allowed in a label: it is 20 to 7E, but not the quotation mark, 22 (format, Records)
abbrev pub is_label_octet : ℕ → Bool
is_label_octet octet = nat_le FIRST_PRINTED octet && nat_le octet LAST_PRINTED && not (octet == QUOTATION_MARK)

-- octets are a label: at most 32, each allowed in a label (format, Records)
abbrev pub is_label : List ℕ → Bool
is_label octets = nat_le (length octets) MOST_LABEL_OCTETS && list_all is_label_octet octets

-- a label padded with zeros to 32 octets (own)
abbrev pub padded_label : List ℕ → List ℕ
padded_label label = label ++ replicate (MOST_LABEL_OCTETS - length label) 0

-- the first `count` octets are a label, and zeros follow it (own)
pub record HoldsLabel (count : ℕ) (octets : List ℕ) : Type 0 where
  pub short : count ≤ MOST_LABEL_OCTETS
  pub counted : length (take count octets) ≡ count
  pub padded : padded_label (take count octets) ≡ octets
  pub label : is_label (take count octets) ≡ true
