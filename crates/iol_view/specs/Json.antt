-- The state on a disk, shown as JSON.
use Rattle.std.specs.Prelude.{◌≡◌, ℕ, List, ◌++◌, codes, Some, Ok}
use Rattle.serde_json.specs.Read.{read}
use Rattle.iol_types.specs.State.{State}
use Rattle.iol_disk.specs.Disk.{Disk, Shows}
use Rattle.iol_journal.specs.Meaning.{meaning}
use Rattle.iol_json.specs.Json.{state_data}

-- a text is one object, in one or several lines, that reads as a state after this number of commands (format, JSON)
abbrev pub ReadsAs : ℕ → State → List ℕ → Type 0
ReadsAs number state text = (json : List ℕ) × (text ≡ json ++ codes "\n") × (read json ≡ Some (state_data number state))

-- a text reads as some state (own)
abbrev pub IsSomeState : List ℕ → Type 0
IsSomeState text = (number : ℕ) × (state : State) × ReadsAs number state text

-- a text reads as a number and a state; if the disk is honest, these are the meaning of what is read from it (format, JSON)
abbrev pub TellsStateAsJson : Disk → List ℕ → Type 0
TellsStateAsJson disk text =
    (number : ℕ) × (state : State) × Shows disk (λ image. meaning disk.sectors image ≡ Ok (record { number = number; state = state }))
    × ReadsAs number state text
