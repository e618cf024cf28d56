-- Lists of commands that a lawful trace acknowledged, and the sets that they leave.
use Rattle.std.specs.Prelude.{◌≡◌, ◌⊎◌, ◌-◌, ℕ, List, ◌∷◌, ◌++◌, take}
use Rattle.iol_types.specs.Command.{CommandValue, Store}
use Rattle.iol_types.specs.State.{Port, Stored}
use Rattle.iol_front.specs.Fronts.{Start}
use Rattle.iol_core.specs.Events.{Accepted, Stamp}
use Rattle.iol_core.specs.Words.{accepted, acked}
use Rattle.iol_headline.specs.Laws.{IsLawful}
use Rattle.iol_headline.specs.StoredSets.{HadSet, HasSet}
use Rattle.iol_headline.specs.WholeSets.{IsUploadedWhole}

-- a lawful trace has acknowledged up to this number, and these are the commands that it accepted up to it (own)
pub record IsLawfulList (start : Start) (number : ℕ) (commands : List CommandValue) : Type 0 where
  pub events : List Stamp
  pub lawful : IsLawful start.number start.state events
  pub acked_is : acked start.number events ≡ number
  pub accepted_first : take (number - start.number) (accepted events) ≡ commands

-- a lawful trace with these commands accepted a Store of the set for the port. What it reported before that is one whole upload of
-- the set, over one connection, and no Configure of the port was accepted since the upload began (own)
pub record WasUploaded (start : Start) (number : ℕ) (commands : List CommandValue) (port : ℕ) (stored : Stored) : Type 0 where
  pub trace : IsLawfulList start number commands
  pub before : List Stamp
  pub given : ℕ
  pub revision : ℕ
  pub clock : ℕ
  pub later : List Stamp
  pub connection : ℕ
  pub split : trace.events ≡ before ++ record { event = Accepted given (Store port revision stored.set); clock = clock } ∷ later
  pub whole : IsUploadedWhole port connection stored.set before

-- each set that a port has was there at the start, or was uploaded (own)
abbrev pub SetsWereUploaded : Start → ℕ → List CommandValue → ℕ → Port → Type 0
SetsWereUploaded start number commands port kept =
    (stored : Stored) → HasSet kept stored → HadSet start.state port stored ⊎ WasUploaded start number commands port stored
