-- The text of the state on a disk.
use Rattle.std.specs.Prelude.{◌≡◌, ℕ, List, Ok}
use Rattle.iol_types.specs.State.{State}
use Rattle.iol_disk.specs.Disk.{Disk, Shows}
use Rattle.iol_journal.specs.Meaning.{meaning}
use Rattle.iol_texts.specs.Recovered.{recovered_text}

-- a text shows a number and a state: of an honest disk, those that its content means (format, Texts)
abbrev pub TellsState : Disk → List ℕ → Type 0
TellsState disk text =
    (number : ℕ) × (state : State) × Shows disk (λ image. meaning disk.sectors image ≡ Ok (record { number = number; state = state }))
    × (text ≡ recovered_text number state)
