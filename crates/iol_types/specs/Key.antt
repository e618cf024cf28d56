-- Keys: the names that parameters have within a device.
use Rattle.std.specs.Prelude.{◌<◌, ◌^◌, ◌==◌, ◌&&◌, ◌||◌, Bool}
use Rattle.iol_types.specs.declared.key.Key.{Key}
use Rattle.iol_types.specs.declared.key.TheConstants.{DIRECT_PARAMETER_PAGE, SYSTEM_COMMAND, DATA_STORAGE}

-- the numbers of a key are in their ranges: Index two octets, Subindex one (standard, ISDU)
pub record IsKey (key : Key) : Type 0 where
  pub index : key.index < 2 ^ 16
  pub subindex : key.subindex < 2 ^ 8

-- two keys are the same: equal Index, and equal Subindex (own)
abbrev pub same_key : Key → Key → Bool
same_key one two = (one.index == two.index) && (one.subindex == two.subindex)

-- an Index that no parameter set holds: Direct Parameter page 1, the System Command, the Data Storage object (standard,
-- Data Storage object)
abbrev pub is_reserved : Key → Bool
is_reserved key = (key.index == DIRECT_PARAMETER_PAGE) || (key.index == SYSTEM_COMMAND) || (key.index == DATA_STORAGE)
