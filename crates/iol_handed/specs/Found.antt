-- The values with which a master begins.
use Rattle.std.specs.Prelude.{◌≡◌, []}
use Rattle.iol_types.specs.State.{State}
use Rattle.iol_front.specs.Fronts.{FrontId}
use Rattle.iol_journal.specs.Journals.{JournalView}
use Rattle.iol_handed.specs.HandedDisk.{HandedDiskView}

-- a journal that was found, its state, and a front (own)
pub record FoundView : Type 0 where
  pub front : FrontId
  pub journal : JournalView HandedDiskView
  pub state : State

-- the front begins where the journal does, and the journal has no commands yet (own)
pub record IsFound (found : FoundView) : Type 0 where
  pub number : found.front.start.number ≡ found.journal.history.first
  pub begins : found.front.start.state ≡ found.journal.history.start
  pub same : found.state ≡ found.journal.history.start
  pub list : found.journal.history.commands ≡ []
