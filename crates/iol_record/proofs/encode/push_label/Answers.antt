use Rattle.std.proofs.Common.{arith, rules}
use Rattle.std.proofs.lemmas.Grind.{common_steps}
use Rattle.iol_record.proofs.encode.push_label.Goals as goal

pub returns-in_ok-push-in-Two-clause-octets : goal.returns-in_ok-push-in-Two-clause-octets
returns-in_ok-push-in-Two-clause-octets c = grind (arith, common_steps)

pub returns-in-One-clause-octets : goal.returns-in-One-clause-octets
returns-in-One-clause-octets c = search rules
