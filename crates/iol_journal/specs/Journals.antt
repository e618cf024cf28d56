-- A journal, and a batch that is being written, as contracts see them.
use Rattle.std.specs.Prelude.{List, Option}
use Rattle.iol_types.specs.Command.{CommandValue}
use Rattle.iol_journal.specs.BegunViews.{BegunView}
use Rattle.iol_layout.specs.Meaning.{Standing}
use Rattle.iol_journal.specs.declared.history.History.{History}
use Rattle.iol_layout.specs.declared.idle.Idle.{Idle}
use Rattle.iol_journal.specs.declared.phase.Phase.{Phase}
use Rattle.iol_journal.specs.declared.phase.Phase.TheVariants.{Body}
use Rattle.iol_disk.specs.Calls.{Call}
use Rattle.iol_journal.specs.Batches.{body_for, sectors_for, calls_from}

-- a journal as contracts see it: its disk, its standing, what makes the other area harmless, its history since
-- recovery, and the paused checkpoint, if one is paused (own)
pub record JournalView (D : Type 0) : Type 0 where
  pub disk : D
  pub standing : Standing
  pub idle : Idle
  pub history : History
  pub begun : Option BegunView

-- a batch that is being written, as contracts see it: the disk, the journal's standing before it, its commands and its
-- next disk call (own)
pub record WritingView (D : Type 0) : Type 0 where
  pub disk : D
  pub standing : Standing
  pub idle : Idle
  -- what the journal had done before the batch, and the checkpoint that is paused meanwhile
  pub history : History
  pub begun : Option BegunView
  -- the commands of the batch, and the next disk call
  pub commands : List CommandValue
  pub phase : Phase

-- a batch of these commands before its first disk call (own)
abbrev pub writing_of : {D : Type 0} → JournalView D → List CommandValue → WritingView D
writing_of j commands = record {
  disk = j.disk;
  standing = j.standing;
  idle = j.idle;
  history = j.history;
  begun = j.begun;
  commands = commands;
  phase = Body 0;
}

-- the disk calls that a batch still makes (own)
abbrev pub calls_left : {D : Type 0} → WritingView D → List Call
calls_left w = calls_from w.standing (body_for w.standing w.commands) (sectors_for w.standing w.commands) w.phase
