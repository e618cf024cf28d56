use Rattle.std.proofs.Common.{arith, rules}
use Rattle.std.proofs.lemmas.Grind.{common_steps}
use Rattle.iol_journal.proofs.plan.Plan.of.Goals as goal

pub returns-then-free_slots-span-clause-cause : goal.returns-then-free_slots-span-clause-cause
returns-then-free_slots-span-clause-cause c = search rules

pub returns-then-free_slots-span-clause-used : goal.returns-then-free_slots-span-clause-used
returns-then-free_slots-span-clause-used c = search rules

pub returns-then-branch-clause-can_follow : goal.returns-then-branch-clause-can_follow
returns-then-branch-clause-can_follow c = grind (arith, common_steps)

pub returns-then-branch-clause-follows : goal.returns-then-branch-clause-follows
returns-then-branch-clause-follows c = grind (arith, common_steps)
