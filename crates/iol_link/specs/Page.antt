-- Direct Parameter page 1: the meaning of its octets (IO-Link V1.1, Direct Parameter page 1).
use Rattle.std.specs.Prelude.{ℕ, ◌+◌, ◌*◌, ◌/◌, ◌%◌, ◌==◌, Bool, List, [], ◌∷◌, Option, slice_index, slice_range, slice_get, fold}
use Rattle.std.specs.Option.{option_map}

-- the values on the page of a device: its VendorID, DeviceID and RevisionID, the octet MinCycleTime, and whether ISDU is
-- supported (standard, Direct Parameter page 1)
pub record PageValue : Type 0 where
  pub vendor : ℕ
  pub device : ℕ
  pub revision : ℕ
  pub min_cycle_time : ℕ
  pub has_isdu : Bool

-- the number that these octets are, most significant octet first (standard, Direct Parameter page 1)
abbrev pub number_of : List ℕ → ℕ
number_of octets = fold (λ number octet. number * 256 + octet) 0 octets

-- the values on the page by address: 02 MinCycleTime, 03 M-sequence Capability with ISDU in bit 0, 04 RevisionID, 07 and
-- 08 VendorID, 09 to 0B DeviceID (standard, Direct Parameter page 1)
abbrev pub page_of : List ℕ → PageValue
page_of octets = record {
  vendor = number_of (slice_range octets 0x07 0x09);
  device = number_of (slice_range octets 0x09 0x0C);
  revision = slice_index octets 0x04;
  min_cycle_time = slice_index octets 0x02;
  has_isdu = slice_index octets 0x03 % 2 == 1;
}

-- the time bases of MinCycleTime: each has an offset and a step, in tenths of a millisecond; the one after them is
-- reserved (standard, Direct Parameter page 1)
abbrev pub time_bases : List (ℕ × ℕ)
time_bases = (0, 1) ∷ (64, 4) ∷ (320, 16) ∷ []

-- MinCycleTime in tenths of a millisecond: the time base is in bits 6 and 7, the number of its steps in bits 0 to 5
-- (standard, Direct Parameter page 1)
abbrev pub min_cycle_tenths : ℕ → Option ℕ
min_cycle_tenths octet = option_map (λ base. base.0 + base.1 * (octet % 64)) (slice_get time_bases (octet / 64))
