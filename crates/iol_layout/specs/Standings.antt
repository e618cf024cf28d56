-- The standing of a journal: where it writes next, the number of its commands, and the state after them.
use Rattle.std.specs.Prelude.{◌≡◌, ◌≤◌, ◌<◌, ℕ, ◌+◌, ◌-◌, if◌then◌else◌, List, length}
use Rattle.iol_types.specs.Command.{CommandValue}
use Rattle.iol_types.specs.State.{State, after}
use Rattle.iol_disk.specs.Disk.{Disk}
use Rattle.iol_layout.specs.Header.{epochs_ahead}
use Rattle.iol_layout.specs.Layout.{IsLayout, is_renewed, total}
use Rattle.iol_layout.specs.Meaning.{Standing}
use Rattle.iol_layout.specs.declared.place.Place.{Place}
use Rattle.iol_layout.specs.declared.header.TheConstants.{LAST_NUMBER}
use Rattle.iol_layout.specs.Body.{slots_for}

-- the standing of a journal that writes here next, after this number of commands (own)
abbrev pub standing_at : Place → ℕ → State → Standing
standing_at place number state = record {
  layout = place.layout;
  area = place.area;
  epoch = place.epoch;
  used = place.used;
  number = number;
  state = state;
}

-- the standing after a batch: more slots used, more commands, and the state after them (own)
abbrev pub with_batch : Standing → List CommandValue → Standing
with_batch s commands = record {
  layout = s.layout;
  area = s.area;
  epoch = s.epoch;
  used = s.used + slots_for commands;
  number = s.number + length commands;
  state = after s.state commands;
}

-- the number of slots that a batch may take: the unused ones, if the layout is in the version that is written; 0 in an older
-- one, in which nothing is written (format, Slots)
abbrev pub free_slots : Standing → ℕ
free_slots s = if is_renewed s.layout then s.layout.slots - s.used else 0

-- what holds for a journal at rest, on any disk (own)
pub record IsResting (d : Disk) (s : Standing) : Type 0 where
  pub laid_out : IsLayout s.layout
  pub fits : total s.layout ≤ d.sectors
  pub within : s.used ≤ s.layout.slots
  pub bound : s.number ≤ LAST_NUMBER
  -- each epoch except the first, and one more of version 2, began after a command; used slots hold a command too
  pub begun : s.epoch ≤ s.number + epochs_ahead s.layout.version
  pub in_use : 0 < s.used → s.epoch < s.number + epochs_ahead s.layout.version
  pub count : length s.state ≡ s.layout.ports
