-- The ports of a master.
use Rattle.std.specs.Prelude.{◌≡◌, ℕ, zero, suc, ◌+◌, List, [], ◌∷◌, length, Some, slice_get}
use Rattle.iol_port.specs.Stage.{PortValue, new_machine}
use Rattle.iol_engine.specs.PortSteps.{IsReady}

-- the ports of a master, port 1 first: the machine of each, and its link (own)
pub record PortsView (L : Type 0) : Type 0 where
  pub machines : List PortValue
  pub links : List L

-- the machine of a port is at its place, and is ready (own)
pub record IsAtPlace (place : ℕ) (machine : PortValue) : Type 0 where
  pub port_is : machine.port ≡ place + 1
  pub ready : IsReady machine.stage

-- there is a machine for each link, and each is at its place (own)
pub record ArePorts {L : Type 0} (ports : PortsView L) : Type 0 where
  pub count : length ports.machines ≡ length ports.links
  pub places : (place : ℕ) (machine : PortValue) → slice_get ports.machines place ≡ Some machine → IsAtPlace place machine

-- `ports` new machines, from the port after number `before` on (own)
abbrev pub machines_from : ℕ → ℕ → List PortValue
machines_from before zero = []
machines_from before (suc ports) = new_machine (before + 1) ∷ machines_from (before + 1) ports

-- `ports` new machines, from port 1 on (own)
abbrev pub new_machines : ℕ → List PortValue
new_machines ports = machines_from 0 ports
