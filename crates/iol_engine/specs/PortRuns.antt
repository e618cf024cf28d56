-- The events of a port are what its machine, its link and the core did, step by step.
use Rattle.std.specs.Prelude.{◌≡◌, ◌<◌, ◌+◌, ◌⊎◌, ℕ, zero, suc, List, [], ◌∷◌, ◌++◌, length, Option, Some, None}
use Rattle.std.specs.Prelude.{slice_get}
use Rattle.iol_types.specs.State.{State, after}
use Rattle.iol_core.specs.Core.{CoreView, live, live_number}
use Rattle.iol_link.specs.Link.{LinkCall, LinkAnswer}
use Rattle.iol_port.specs.History.{Happening, Raised, Did, HasLed}
use Rattle.iol_port.specs.Stage.{Stage, Settled, PortValue, new_machine}
use Rattle.iol_port.specs.Status.{status_of}
use Rattle.iol_port.specs.Telling.{status_told}
use Rattle.iol_port.specs.Wanted.{Wanted, Nothing}
use Rattle.iol_port.specs.declared.action.Input.{Input}
use Rattle.iol_port.specs.declared.action.Input.TheVariants as input
use Rattle.iol_core.specs.Events.{Event, Stamp, stamped}
use Rattle.iol_core.specs.Own.{own, status_shown}
use Rattle.iol_core.specs.Words.{accepted, acked, durable}
use Rattle.iol_engine.specs.PortSteps.{PortStep, noted_by}

-- a core after these events of a run that began with a number and a state: its live state is the one after the accepted
-- commands, and its durable state and number are those of the acknowledged ones (own)
pub record IsCoreAfter (first : ℕ) (start : State) (events : List Stamp) (core : CoreView) : Type 0 where
  pub live : live core ≡ after start (accepted events)
  pub live_number : live_number core ≡ first + length (accepted events)
  pub durable : core.durable ≡ durable first start events
  pub number : core.number ≡ acked first events

-- the happening of a device's event, if there was one (own)
abbrev pub raised_first : Option ℕ → List Happening
raised_first None = []
raised_first (Some code) = Raised code ∷ []

-- the happening that wakes a machine, if it was settled (own)
abbrev pub woken_first : Stage → List Happening
woken_first (Settled rest) = Did Nothing input.Wake ∷ []
woken_first stage = []

-- what has happened to a machine in a step of its port, the newest first: it was fed an event, if there was one, woken if it was
-- settled, and fed the outcome of what it wanted (own)
abbrev pub happened : PortValue → Option ℕ → Wanted → Input → List Happening
happened before event wants heard = Did wants heard ∷ (woken_first (noted_by event before).stage ++ raised_first event)

module _ {L : Type 0} (number : L → ℕ) (steps : L → LinkCall → LinkAnswer → L → Type 0) (first : ℕ) (start : State) where
  -- the last step of a port's machine: earlier events led it to its value before the step, and it made the step with its link and
  -- with the core as it was then. The events of the step follow at once, and after them none of the port's own (own)
  pub record HasLastStep (Led : PortValue → L → List Stamp → Type 0) (port : ℕ) (machine : PortValue) (link : L) (events : List Stamp) :
      Type 0 where
    pub before : PortValue
    pub linked : L
    pub old : CoreView
    pub new : CoreView
    pub earlier : List Stamp
    pub clock : ℕ
    pub called : List Event
    pub status : List Event
    pub later : List Stamp
    pub led : Led before linked earlier
    pub core : IsCoreAfter first start earlier old
    pub step : PortStep number steps before machine linked link old new called status
    pub told : events ≡ earlier ++ stamped clock (called ++ status) ++ later
    pub others : own port later ≡ []

  -- `made` steps have led a port's new machine and its link to these values, and reported all events of the port (own)
  abbrev pub IsPortRun : ℕ → L → ℕ → PortValue → L → List Stamp → Type 0
  IsPortRun port begun zero machine link events = (machine ≡ new_machine port) × (link ≡ begun) × (own port events ≡ [])
  IsPortRun port begun (suc made) machine link events = HasLastStep (IsPortRun port begun made) port machine link events

  -- what has happened to the machine of a port in its steps, the newest first (own)
  abbrev pub history_of : (port : ℕ) (begun : L) (made : ℕ) (machine : PortValue) (link : L) (events : List Stamp)
      → IsPortRun port begun made machine link events → List Happening
  history_of port begun zero machine link events run = []
  history_of port begun (suc made) machine link events run =
      happened run.before run.step.hears_event.event run.step.acts.wants run.step.acts.heard
      ++ history_of port begun made run.before run.linked run.earlier run.led

  -- the events of a port are a run of its machine, of `made` steps, from one link to another. What has happened in these steps is
  -- the history of the machine, and its status is the one that was reported last (own)
  pub record HasPortRun (port made : ℕ) (begun last : L) (events : List Stamp) : Type 0 where
    pub machine : PortValue
    pub run : IsPortRun port begun made machine last events
    pub led : HasLed port (history_of port begun made machine last events run) machine
    pub status : status_shown port events ≡ status_told (status_of machine.stage)

  -- there is a link for each port of the state at the start. The events of each port are a run of its machine, of the number of steps
  -- that is counted for the port, from the link at the start to the link at the end; other ports, and a port 0, have no events
  -- (own)
  pub record AreRunsOfPorts (counted : ℕ → ℕ) (links : List L) (events : List Stamp) (last : List L) : Type 0 where
    pub count : length links ≡ length start
    pub runs : (place : ℕ) (begun link : L) → slice_get links place ≡ Some begun → slice_get last place ≡ Some link
        → HasPortRun (place + 1) (counted (place + 1)) begun link events
    pub others : (port : ℕ) → (port ≡ 0) ⊎ (length links < port) → own port events ≡ []
