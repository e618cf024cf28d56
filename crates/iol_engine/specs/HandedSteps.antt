-- Steps of an engine with what a link answered to a call that was made outside the engine.
use Rattle.std.specs.Prelude.{◌≡◌, ◌-◌, ◌++◌, ℕ, Bool, true, List, Option, None, Some, slice_get, slice_set}
use Rattle.iol_port.specs.Heard.{is_settled}
use Rattle.iol_port.specs.Stage.{PortValue}
use Rattle.iol_port.specs.LinkWants.{link_wanted}
use Rattle.iol_port.specs.declared.action.Want.{Want}
use Rattle.iol_port.specs.declared.action.Want.TheVariants as want
use Rattle.iol_port.specs.Status.{status_of}
use Rattle.iol_port.specs.declared.status.PortStatus.{PortStatus}
use Rattle.iol_core.specs.Events.{Event}
use Rattle.iol_engine.specs.Answered.{FitsWant}
use Rattle.iol_engine.specs.Engine.{EngineView, MakesStep}
use Rattle.iol_engine.specs.Handed.{Hands, handed_number}
use Rattle.iol_engine.specs.declared.handed.Handed.{Handed}

-- what an engine wants of a port's link; nothing if the port is not there (own)
abbrev pub wanted_of : Option PortValue → Want
wanted_of None = want.Nothing
wanted_of (Some machine) = link_wanted machine.stage

abbrev pub want_at : EngineView → ℕ → Want
want_at engine port = wanted_of (slice_get engine.machines (port - 1))

-- a port makes its step with the answer that was passed in, on the connection that the engine knows, and reports these events (own)
pub record StepsHanded (port : ℕ) (handed : Handed) (old new : EngineView) (told : List Event) : Type 0 where
  pub linked : Handed
  pub on : slice_get old.connections (port - 1) ≡ Some handed.connection
  pub makes : MakesStep handed_number Hands port old.core new.core old.machines new.machines handed linked told
  pub connections : new.connections ≡ slice_set old.connections (port - 1) linked.connection
  pub told_is : new.told ≡ old.told ++ told

-- the answer does not count for a port: the engine has no such port, its link is on another connection, or the answer does not fit (own)
abbrev pub NeverFits : ℕ → Handed → EngineView → Type 0
NeverFits port handed engine =
    slice_get engine.connections (port - 1) ≡ Some handed.connection → FitsWant (want_at engine port) handed.answer → ⊥

-- a port is settled, or is not there (own)
abbrev pub settled_in : Option PortValue → Bool
settled_in None = true
settled_in (Some machine) = is_settled machine.stage

-- the status of a port, if it is there (own)
abbrev pub status_in : Option PortValue → Option PortStatus
status_in None = None
status_in (Some machine) = Some (status_of machine.stage)
