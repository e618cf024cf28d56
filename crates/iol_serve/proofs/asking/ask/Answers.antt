use Rattle.iol_types.specs.Command.{command_of}
use Rattle.iol_master.proofs.Notices.{stands_later}
use Rattle.iol_serve.proofs.asking.ask.Goals as goal

-- the command has the receipt's number in the list of its pass, which the client has then seen
pub returns-in-Ok-clause-outcome : goal.returns-in-Ok-clause-outcome
returns-in-Ok-clause-outcome g c =
    let said = c.in-Ok.ensures.receipt in (
      said.above,
      stands_later g.F.Name.front.start c.in-Ok.receipt.pass c.ask.new.self c.in-Ok.receipt.number (command_of c.args.change)
          said.stands said.met,
    )
