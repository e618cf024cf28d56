use Rattle.std.proofs.Common.{◌≡◌, ◌++◌, map, take, drop}
use Rattle.iol_layout.specs.AreaPlans.{write_of}
use Rattle.iol_layout.specs.AreaWrites.{port_writes}
use Rattle.iol_layout.proofs.AreaRecords.{ArePorts}
use Rattle.iol_layout.proofs.records.record_sectors.Given as goal

-- what was pushed, and the records of the ports after it, are those of all ports
abbrev pub invariant-loop-place : goal.invariant-loop-place
invariant-loop-place l = record {
  are : ArePorts l.fn.layout.version (take l.place l.fn.state);
  so_far : map write_of l.records.items ++ port_writes l.fn.layout l.fn.area l.place (drop l.place l.fn.state)
      ≡ port_writes l.fn.layout l.fn.area 0 l.fn.state;
}
