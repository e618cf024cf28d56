use Rattle.std.proofs.Common.{◌≡◌, rules}
use Rattle.iol_types.specs.Command.{value_of}
use Rattle.iol_types.specs.Sameness.{same_command, same_command-Decides}
use Rattle.iol_types.proofs.Deciding.{decides_too}
use Rattle.iol_types.proofs.command.CommandPartialEq.eq.Goals as goal

pub returns-then-revision-other_revision-clause-exactly : goal.returns-then-revision-other_revision-clause-exactly
returns-then-revision-other_revision-clause-exactly c =
    let one = value_of c.args.self.now in
    let two = value_of c.args.other.now in
    let test : c.eq-then-revision-other_revision.result ≡ same_command one two = search rules in
    decides_too test (same_command-Decides one two)
