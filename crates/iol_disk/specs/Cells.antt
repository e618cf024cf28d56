-- The sectors of a disk in memory: what is durable in each, and what was written to it since.
use Rattle.std.specs.Prelude.{◌≡◌, ◌≤◌, ℕ, Bool, List, [], Option, Some, None, Vec, is_some, length, slice_get, unwrap_or, replicate}
use Rattle.std.specs.Prelude.{nat_eq}
use Rattle.std.specs.List.{list_any, IsDistinct}
use Rattle.std.specs.Vec.{vec_capacity}
use Rattle.std.specs.declared.alloc.Global.{Global}
use Rattle.iol_disk.specs.Content.{Image}
use Rattle.iol_disk.specs.declared.cell.Cell.{Cell}
use Rattle.iol_disk.specs.declared.disk.TheConstants.{SECTOR_OCTETS}

-- the durable octets of a sector in memory, if it exists (own)
abbrev pub durable_in : Option Cell → List ℕ
durable_in (Some cell) = cell.durable
durable_in None = []

-- the octets written to a sector in memory since the last sync, if any (own)
abbrev pub newest_in : Option Cell → Option (List ℕ)
newest_in (Some cell) = cell.newest
newest_in None = None

-- the durable octets of each sector, and the newest ones of those written since the last sync (own)
abbrev pub durable_of : List Cell → Image
durable_of cells i = durable_in (slice_get cells i)

abbrev pub written_of : List Cell → ℕ → Option (List ℕ)
written_of cells i = newest_in (slice_get cells i)

-- a sector after its newest octets were made durable (own)
abbrev pub settled : Cell → Cell
settled cell = record { durable = unwrap_or cell.newest cell.durable; newest = None }

-- a sector that was never written: 512 zeros (own)
abbrev pub blank_cell : Cell
blank_cell = record { durable = replicate SECTOR_OCTETS 0; newest = None }

-- whether the sector is in the list (own)
abbrev pub is_listed : List ℕ → ℕ → Bool
is_listed listed i = list_any (nat_eq i) listed

-- the list has exactly the sectors that were written, each once, and capacity for all sectors (own)
pub record ListsWritten (cells : List Cell) (listed : Vec ℕ Global) : Type 0 where
  pub exactly : (i : ℕ) → is_listed listed.items i ≡ is_some (written_of cells i)
  pub once : IsDistinct nat_eq listed.items
  pub room : length cells ≤ vec_capacity listed
