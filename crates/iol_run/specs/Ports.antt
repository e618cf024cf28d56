-- What a port's step does in a run.
use Rattle.std.specs.Prelude.{◌≡◌, ℕ, ◌-◌, ◌≤◌, nat_le, Bool, true, false, List, [], ◌++◌, length, Some, slice_get, slice_set}
use Rattle.iol_link.specs.Link.{LinkCall, LinkAnswer}
use Rattle.iol_port.specs.Stage.{PortValue}
use Rattle.iol_core.specs.Events.{Event}
use Rattle.iol_engine.specs.PortSteps.{PortStep}
use Rattle.iol_engine.specs.Ports.{PortsView}
use Rattle.iol_run.specs.CoreOnDisk.{CoreOnDiskView}

module _ {D L : Type 0} (number : L → ℕ) (steps : L → LinkCall → LinkAnswer → L → Type 0) where
  -- a port makes its step; the other ports and the flusher stay as they are (own)
  pub record StepsThere (port : ℕ) (old new : CoreOnDiskView D) (ports last : PortsView L) (told : List Event) : Type 0 where
    pub before : PortValue
    pub after : PortValue
    pub link : L
    pub linked : L
    pub called : List Event
    pub status : List Event
    pub some : 1 ≤ port
    pub machine_is : slice_get ports.machines (port - 1) ≡ Some before
    pub link_is : slice_get ports.links (port - 1) ≡ Some link
    pub steps_as : PortStep number steps before after link linked old.core new.core called status
    pub told_is : told ≡ called ++ status
    pub machines : last.machines ≡ slice_set ports.machines (port - 1) after
    pub links : last.links ≡ slice_set ports.links (port - 1) linked
    pub flusher : new.flusher ≡ old.flusher
    pub committed : new.committed ≡ old.committed

  -- a port that the master has makes its step; for another, nothing is reported and nothing changes (own)
  abbrev pub StepsIf : Bool → ℕ → CoreOnDiskView D → CoreOnDiskView D → PortsView L → PortsView L → List Event → Type 0
  StepsIf true port old new ports last told = StepsThere port old new ports last told
  StepsIf false port old new ports last told = (new ≡ old) × (last ≡ ports) × (told ≡ [])

  abbrev pub StepsPort : ℕ → CoreOnDiskView D → CoreOnDiskView D → PortsView L → PortsView L → List Event → Type 0
  StepsPort port old new ports last told = StepsIf (nat_le port (length ports.links)) port old new ports last told
