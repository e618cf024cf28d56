use Rattle.std.proofs.Common.{ℕ, subst, lit≤}
use Rattle.iol_transfer.specs.Command.{commanded}
use Rattle.iol_transfer.specs.declared.command.DsCommand.TheVariants.{UploadEnd}
use Rattle.iol_core.specs.Events.{stamped}
use Rattle.iol_headline.proofs.ExampleTalks.{ends_upload}
use Rattle.iol_headline.proofs.ExampleLaws.{stored_whole, judged_ready}
use Rattle.iol_headline.proofs.Sending.{one_request}
use Rattle.iol_headline.proofs.examples.a_backup_ends.Goals as goal
use Rattle.iol_headline.specs.DurableEnds.{IsStored}
use Rattle.iol_headline.specs.Examples.{stored}

pub returns-clause-end : goal.returns-clause-end
returns-clause-end c port connection sent = (
  2,
  subst (λ (p : ℕ). IsStored p connection 2 (stamped 7 stored)) sent.0
      (subst (λ (c : ℕ). IsStored 1 c 2 (stamped 7 stored)) sent.1 stored_whole),
  lit≤ tt,
)

pub returns-clause-command : goal.returns-clause-command
returns-clause-command c port connection subindex octets sent =
    (UploadEnd, one_request _ _ (commanded UploadEnd) sent.2 ends_upload)

pub returns-clause-ready : goal.returns-clause-ready
returns-clause-ready c = judged_ready
