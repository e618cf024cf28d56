-- The number and the state that are reached after the commands of a batch.
use Rattle.std.specs.Prelude.{ℕ, ◌+◌, if◌then◌else◌, List, length, Option, Some, None}
use Rattle.iol_types.specs.Command.{CommandValue}
use Rattle.iol_types.specs.State.{State, after, legal}
use Rattle.iol_layout.specs.Meaning.{Meaning}

-- the number and the state after these commands, if there are commands and they are legal (own)
abbrev pub reached : ℕ → State → Option (List CommandValue) → Option Meaning
reached number state None = None
reached number state (Some commands) =
    if legal state commands then Some (record { number = number + length commands; state = after state commands }) else None
