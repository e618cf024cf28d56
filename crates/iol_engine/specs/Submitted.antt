-- The events of commands that clients ask for.
use Rattle.std.specs.Prelude.{ℕ, List, [], ◌∷◌, Result, Ok, Err}
use Rattle.iol_types.specs.Command.{CommandValue}
use Rattle.iol_core.specs.Telling.{refusal_of}
use Rattle.iol_core.specs.declared.ticket.SubmitFault.{SubmitFault}
use Rattle.iol_core.specs.Events.{Event, Accepted, Refused}

-- the event of a client's command: its number, or why it is refused (own)
abbrev pub submit_told : CommandValue → Result ℕ SubmitFault → List Event
submit_told command (Ok number) = Accepted number command ∷ []
submit_told command (Err fault) = Refused (refusal_of fault) ∷ []
