-- A batch that follows a journal, and its encoded form.
use Rattle.std.specs.Prelude.{◌≡◌, ◌≤◌, ◌+◌, true, List, ◌++◌, length}
use Rattle.iol_types.specs.Command.{CommandValue}
use Rattle.iol_types.specs.State.{after, legal}
use Rattle.iol_disk.specs.Disk.{Disk}
use Rattle.iol_record.specs.Record.{newest}
use Rattle.iol_layout.specs.Header.{epochs_ahead}
use Rattle.iol_layout.specs.Layout.{IsLayout, total}
use Rattle.iol_layout.specs.Meaning.{Standing}
use Rattle.iol_layout.specs.declared.body.EncodedBatch.{EncodedBatch}
use Rattle.iol_journal.specs.declared.history.History.{History}
use Rattle.iol_journal.specs.declared.phase.Phase.{Phase}
use Rattle.iol_journal.specs.declared.plan.Plan.{Plan}
use Rattle.iol_layout.specs.declared.header.TheConstants.{LAST_NUMBER}
use Rattle.iol_journal.specs.Batches.{IsPhase, body_for, sectors_for}
use Rattle.iol_layout.specs.Body.{IsBatch, slots_for}

-- the commands of a history lead from the number and state that recovery found to the journal's own (own)
pub record LeadsTo (s : Standing) (history : History) : Type 0 where
  pub number : s.number ≡ history.first + length history.commands
  pub state : s.state ≡ after history.start history.commands

-- a history after more commands (own)
abbrev pub written_after : History → List CommandValue → History
written_after history commands = record history { commands = history.commands ++ commands }

-- a batch can be written to a journal with this standing: the layout is the newest, the free slots hold the batch, and each
-- command passes (own)
pub record CanFollow (s : Standing) (commands : List CommandValue) : Type 0 where
  pub written : s.layout.version ≡ newest
  pub room : s.used + slots_for commands ≤ s.layout.slots
  pub batch : IsBatch commands
  pub passes : legal s.state commands ≡ true
  pub bound : s.number + length commands ≤ LAST_NUMBER

-- what holds of a batch that is being written, on any disk (own)
pub record IsPlanned (d : Disk) (s : Standing) (commands : List CommandValue) (phase : Phase) : Type 0 where
  pub laid_out : IsLayout s.layout
  pub fits : total s.layout ≤ d.sectors
  pub follows : CanFollow s commands
  pub in_phase : IsPhase (sectors_for s commands) phase
  pub begun : s.epoch ≤ s.number + epochs_ahead s.layout.version
  pub count : length s.state ≡ s.layout.ports

-- a batch as it is encoded for a journal with this standing (own)
pub record IsEncoded (s : Standing) (commands : List CommandValue) (body : EncodedBatch) : Type 0 where
  pub octets : body.octets.items ≡ body_for s commands
  pub span : body.span ≡ slots_for commands
  pub sectors : body.sectors ≡ sectors_for s commands

-- a plan has the body of the batch and the state after it (own)
pub record IsPlan (s : Standing) (commands : List CommandValue) (plan : Plan) : Type 0 where
  pub body : IsEncoded s commands plan.body
  pub next : plan.next ≡ after s.state commands
