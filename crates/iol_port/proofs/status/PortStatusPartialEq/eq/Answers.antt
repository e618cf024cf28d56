use Rattle.std.specs.Bool.{one_answer}
use Rattle.iol_port.specs.Sameness.{same_status, same_status-Decides}
use Rattle.iol_port.proofs.status.PortStatusPartialEq.eq.Goals as goal

pub returns-clause-test : goal.returns-clause-test
returns-clause-test c =
    let one = c.args.self.now in
    let two = c.args.other.now in
    one_answer c.is_same_status.result (same_status one two) c.is_same_status.ensures (same_status-Decides one two)
