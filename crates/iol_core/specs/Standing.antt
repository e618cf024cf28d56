-- The state after a prefix of a list of commands.
use Rattle.std.specs.Prelude.{◌≡◌, ℕ, ◌+◌, ◌-◌, ◌≤◌, List, length, take}
use Rattle.iol_types.specs.Command.{CommandValue}
use Rattle.iol_types.specs.State.{State, after}
use Rattle.iol_front.specs.Fronts.{Start}

-- the start state after the seen commands with numbers up to this one (own)
abbrev pub state_at : Start → List CommandValue → ℕ → State
state_at start seen number = after start.state (take (number - start.number) seen)

-- the state is the start state after the commands with numbers up to this one, all of which were
-- seen (own)
pub record Stands (start : Start) (seen : List CommandValue) (number : ℕ) (durable : State) : Type 0 where
  pub above : start.number ≤ number
  pub within : number ≤ start.number + length seen
  pub state : durable ≡ state_at start seen number
