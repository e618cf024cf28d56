-- An engine: a core and the machines of its ports, without disk and links. It reports what these did.
use Rattle.std.specs.Prelude.{◌≡◌, ◌<◌, ◌≤◌, ◌+◌, ◌-◌, ◌⊎◌, ℕ, List, [], ◌++◌, length, take, Some, slice_get, slice_set}
use Rattle.iol_types.specs.Command.{CommandValue}
use Rattle.iol_types.specs.State.{State, after}
use Rattle.iol_core.specs.Core.{CoreView}
use Rattle.iol_front.specs.Fronts.{Start}
use Rattle.iol_link.specs.Link.{LinkCall, LinkAnswer}
use Rattle.iol_port.specs.Stage.{PortValue}
use Rattle.iol_core.specs.Events.{Event, Stamp, stamped}
use Rattle.iol_core.specs.Own.{own}
use Rattle.iol_core.specs.Words.{accepted, acked}
use Rattle.iol_engine.specs.Acknowledged.{AcksRise}
use Rattle.iol_engine.specs.PortRuns.{IsPortRun}
use Rattle.iol_engine.specs.PortSteps.{PortStep}
use Rattle.iol_engine.specs.Ports.{ArePorts, PortsView}

-- the accepted commands are those that are durable and those that wait, and the acknowledged ones are those that are durable (own)
pub record Stands (first : ℕ) (start : State) (events : List Stamp) (core : CoreView) : Type 0 where
  pub done : List CommandValue
  pub accepted_is : accepted events ≡ done ++ core.queue
  pub durable_is : core.durable ≡ after start done
  pub number_is : core.number ≡ first + length done
  pub acked_is : acked first events ≡ core.number
  pub flight : core.flight ≤ length core.queue

module _ {L : Type 0} (number : L → ℕ) (steps : L → LinkCall → LinkAnswer → L → Type 0) where
  -- the events of a port that has a link are a run of its machine, of the number of steps that is counted for the port (own)
  abbrev pub RunAt : ℕ → State → (ℕ → ℕ) → List L → PortsView L → List Stamp → ℕ → Type 0
  RunAt first start counted links ports events place =
      (begun link : L) (machine : PortValue) → slice_get links place ≡ Some begun → slice_get ports.links place ≡ Some link
      → slice_get ports.machines place ≡ Some machine
      → IsPortRun number steps first start (place + 1) begun (counted (place + 1)) machine link events

  -- the events of each port are a run of its machine, and no other number has events (own)
  pub record HaveRuns (first : ℕ) (start : State) (counted : ℕ → ℕ) (links : List L) (ports : PortsView L) (events : List Stamp) : Type 0
    where
      pub count : length ports.links ≡ length links
      pub machines : length ports.machines ≡ length ports.links
      pub runs : (place : ℕ) → RunAt first start counted links ports events place
      pub others : (port : ℕ) → (port ≡ 0) ⊎ (length links < port) → own port events ≡ []

  -- a port's machine makes its step with its link and the core, and the other machines stay as they are (own)
  pub record MakesStep (port : ℕ) (old new : CoreView) (machines last : List PortValue) (link linked : L) (told : List Event) : Type 0 where
    pub before : PortValue
    pub after : PortValue
    pub called : List Event
    pub status : List Event
    pub some : 1 ≤ port
    pub machine_is : slice_get machines (port - 1) ≡ Some before
    pub steps_as : PortStep number steps before after link linked old new called status
    pub told_is : told ≡ called ++ status
    pub last_is : last ≡ slice_set machines (port - 1) after

-- an engine as contracts see it: its core, the machines of its ports and the numbers of their connections, port 1 first, and the
-- events that it has reported (own)
pub record EngineView : Type 0 where
  pub core : CoreView
  pub machines : List PortValue
  pub connections : List ℕ
  pub told : List Event

-- an engine knows only the number of a link's connection, so each call may have each answer (own)
abbrev pub itself : ℕ → ℕ
itself connection = connection

abbrev pub any_steps : ℕ → LinkCall → LinkAnswer → ℕ → Type 0
any_steps before call answer after = Unit {0}

-- an engine's ports, and its events as a trace, whose clock is 0, as an engine has no disk (own)
abbrev pub ports_of : EngineView → PortsView ℕ
ports_of engine = record { machines = engine.machines; links = engine.connections }

abbrev pub trace_of : EngineView → List Stamp
trace_of engine = stamped 0 engine.told

-- the invariant of an engine whose front has this start. Each machine is at its port's place. The core is as the events say: the
-- durable commands that its pass has seen are the first that were accepted, and acknowledged numbers do not fall. The events of each
-- port are a run of its machine, from the connection that the port began with (own)
pub record IsEngine (start : Start) (engine : EngineView) : Type 0 where
  pub begun : List ℕ
  pub counted : ℕ → ℕ
  pub places : ArePorts (ports_of engine)
  pub stands : Stands start.number start.state (trace_of engine) engine.core
  pub known : take (engine.core.number - start.number) engine.core.seen
      ≡ take (engine.core.number - start.number) (accepted (trace_of engine))
  pub count : length begun ≡ length start.state
  pub runs : HaveRuns itself any_steps start.number start.state counted begun (ports_of engine) (trace_of engine)
  pub rise : AcksRise start.number (trace_of engine)
