-- What a power stop leaves of a run of a core.
use Rattle.std.specs.Prelude.{◌≡◌, ℕ, true, IsTrue, List, [], ◌∷◌, take}
use Rattle.iol_types.specs.State.{State, legal}
use Rattle.iol_disk.specs.Content.{Image, IsImageSince}
use Rattle.iol_disk.specs.Disk.{Disk}
use Rattle.iol_journal.specs.Runs.{HasPrefix, Mark}
use Rattle.iol_core.specs.Events.{Stamp}
use Rattle.iol_core.specs.Words.{accepted, numbers, acked, acked_by, clock_after, RiseByOne}

-- what a power stop leaves of a run that began with a number and a state, at this clock of its disk. The accepted commands
-- pass one after another, under numbers that rise by one. After any count of events, each image that a power stop since then
-- may leave of an honest disk is kept; it means the start state after a prefix of the accepted commands, which includes all
-- commands acknowledged by then (own)
pub record CrashPrefix (d : Disk) (begun first : ℕ) (start : State) (events : List Stamp) : Type 0 where
  pub passes : legal start (accepted events) ≡ true
  pub rise : RiseByOne first (numbers events)
  pub images : IsTrue d.honest → (k : ℕ) (image : Image) → IsImageSince (clock_after begun (take k events)) d.content image
      → HasPrefix d.sectors first start (accepted events) (acked first (take k events)) image

-- the moments of a run: one after each event, newest first, in front of the given ones (own)
abbrev pub marks_from : List Mark → ℕ → List Stamp → List Mark
marks_from marks acknowledged [] = marks
marks_from marks acknowledged (e ∷ events) =
    marks_from (record { clock = e.clock; acknowledged = acked_by acknowledged e.event } ∷ marks) (acked_by acknowledged e.event) events

abbrev pub marks_of : ℕ → ℕ → List Stamp → List Mark
marks_of begun first events = marks_from (record { clock = begun; acknowledged = first } ∷ []) first events
