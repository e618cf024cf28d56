-- The effect of a client's change.
use Rattle.std.specs.Prelude.{◌≡◌, ℕ, Result}
use Rattle.iol_types.specs.Command.{CommandValue}
use Rattle.iol_core.specs.Submit.{IsSubmit}
use Rattle.iol_core.specs.declared.ticket.SubmitFault.{SubmitFault}
use Rattle.iol_handed.specs.Master.{HandedMasterView}

-- the core answers, and nothing else changes (own)
pub record Submits (command : CommandValue) (old new : HandedMasterView) (answer : Result ℕ SubmitFault) : Type 0 where
  pub submits : IsSubmit old.made.master.core command new.made.master.core answer
  pub flusher : new.made.master.flusher ≡ old.made.master.flusher
  pub committed : new.made.master.committed ≡ old.made.master.committed
  pub machines : new.made.machines ≡ old.made.machines
  pub connections : new.made.connections ≡ old.made.connections
  pub reports : new.reports ≡ old.reports
  pub notes : new.notes ≡ old.notes
