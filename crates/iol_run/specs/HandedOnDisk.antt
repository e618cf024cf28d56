-- An engine on a disk, whose links answer calls that are made outside it.
use Rattle.std.specs.Prelude.{List}
use Rattle.iol_engine.specs.Engine.{EngineView}
use Rattle.iol_run.specs.EngineOnDisk.{EngineOnDiskView}
use Rattle.iol_core.specs.Events.{Event}

-- the engine of an engine on a disk, as one that has reported these events (own)
abbrev pub engine_in : {D : Type 0} → EngineOnDiskView D → List Event → EngineView
engine_in made told = record {
  core = made.master.core;
  machines = made.machines;
  connections = made.connections;
  told = told;
}
