-- What is to be written into an area.
use Rattle.std.specs.Prelude.{◌≡◌, ◌≤◌, ◌*◌, length, map, Ok}
use Rattle.iol_types.specs.State.{State}
use Rattle.iol_disk.specs.Calls.{Call, write}
use Rattle.iol_disk.specs.Content.{Image}
use Rattle.iol_layout.specs.AreaWrites.{port_writes, IsRow, HasWrites}
use Rattle.iol_layout.specs.Layout.{Layout, port_at, slot_at}
use Rattle.iol_layout.specs.Meaning.{ports_from}
use Rattle.iol_layout.specs.declared.area.Area.{Area}
use Rattle.iol_layout.specs.declared.area_plan.AreaPlan.{AreaPlan}
use Rattle.iol_layout.specs.declared.header.Header.{Header}
use Rattle.iol_layout.specs.declared.records.RecordSector.{RecordSector}

-- the write of a sector of a record (own)
abbrev pub write_of : RecordSector → Call
write_of record_sector = write record_sector.sector record_sector.octets

-- the records of a state are in rising sectors among those for an area's ports, and are read as that state, whatever else
-- an image holds (own)
pub record AreRecords (layout : Layout) (a : Area) (state : State) : Type 0 where
  pub row : IsRow (port_at layout a 0) (slot_at layout a 0) (port_writes layout a 0 state)
  pub read_back : (image : Image) → HasWrites (port_writes layout a 0 state) image → ports_from layout a image 0 layout.ports ≡ Ok state
  pub at_most : length (port_writes layout a 0 state) ≤ layout.port_sectors * layout.ports

-- a plan for this area has this header and the records of this state (own)
pub record IsAreaPlan (layout : Layout) (a : Area) (header : Header) (state : State) (plan : AreaPlan) : Type 0 where
  pub layout_is : plan.layout ≡ layout
  pub area_is : plan.area ≡ a
  pub header_is : plan.header ≡ header
  pub records_are : map write_of plan.records.items ≡ port_writes layout a 0 state
