-- An engine, and the flusher that writes its batches to the disk.
use Rattle.std.specs.Prelude.{ℕ, List}
use Rattle.iol_port.specs.Stage.{PortValue}
use Rattle.iol_engine.specs.Ports.{PortsView}
use Rattle.iol_run.specs.CoreOnDisk.{CoreOnDiskView}

-- an engine and its flusher as contracts see them: the core with the flusher, and the machines of the ports with the numbers of their
-- connections, port 1 first (own)
pub record EngineOnDiskView (D : Type 0) : Type 0 where
  pub master : CoreOnDiskView D
  pub machines : List PortValue
  pub connections : List ℕ

-- an engine's ports with their links (own)
abbrev pub ports_with : {D L : Type 0} → EngineOnDiskView D → List L → PortsView L
ports_with made links = record { machines = made.machines; links = links }
