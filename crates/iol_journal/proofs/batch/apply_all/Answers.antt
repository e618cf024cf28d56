use Rattle.std.proofs.Common.{arith, rules}
use Rattle.std.proofs.lemmas.Grind.{common_steps}
use Rattle.iol_journal.proofs.batch.apply_all.Goals as goal

pub returns-then-is_err-clause-legal : goal.returns-then-is_err-clause-legal
returns-then-is_err-clause-legal c = grind (arith, common_steps)

pub returns-then-is_err-clause-after : goal.returns-then-is_err-clause-after
returns-then-is_err-clause-after c = search rules
