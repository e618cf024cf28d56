use Rattle.std.proofs.Common.{◌≡◌, ℕ, List, length, take, ◌∙◌, ap, arith}
use Rattle.std.proofs.Math.Seq.{take-length}
use Rattle.iol_types.specs.Command.{CommandValue}
use Rattle.iol_layout.specs.Body.{records_of, values}
use Rattle.iol_layout.proofs.Bodies.{values-more, length-records-more}
use Rattle.iol_journal.proofs.batch.record_octets.Goals as goal

pub loop-command-preserved : goal.loop-command-preserved
loop-command-preserved c =
    let more = values-more c.args.commands.now c.loop-command.command-index c.command-item.result c.loop-command-test.true
    c.command-item.is in
    let counted = ap (λ (commands : List CommandValue). length (records_of commands)) more
    ∙ length-records-more (values (take c.loop-command.command-index c.args.commands.now)) _ in
    record {
      counted =
          let next = rw c.newest.ensures at c.command_record_octets-octets.ensures.count in
          omega (arith, counted, c.loop-command.invariant.counted, next);
      bound = omega (arith, c.loop-command.invariant.bound, c.command_record_octets-octets.ensures.most);
    }

pub returns-clause-octets : goal.returns-clause-octets
returns-clause-octets c =
    let index : c.loop-command.command-index ≡ length c.args.commands.now = omega arith in
    c.loop-command.invariant.counted
    ∙ ap (λ (commands : List CommandValue). length (records_of commands)) (ap (λ (n : ℕ). values (take n c.args.commands.now)) index
    ∙ ap values (take-length c.args.commands.now))
