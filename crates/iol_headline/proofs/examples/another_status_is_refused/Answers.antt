use Rattle.std.specs.Prelude.{Some, None}
use Rattle.iol_link.specs.declared.validation.IdentFault.TheVariants.{Device}
use Rattle.iol_core.specs.Events.{stamped}
use Rattle.iol_core.specs.Own.{own}
use Rattle.iol_headline.proofs.ExampleLaws.{judged_ready}
use Rattle.iol_headline.proofs.LastTold.{one_judgement, judged_not_off}
use Rattle.iol_headline.proofs.Revisions.{none_some}
use Rattle.iol_headline.proofs.examples.another_status_is_refused.Goals as goal
use Rattle.iol_headline.specs.Examples.{ended}
use Rattle.iol_headline.specs.Settled.{IsOff, IsJudged}

off : IsOff 1 (own 1 (stamped 7 ended)) → ⊥
off is = judged_not_off 1 None (own 1 (stamped 7 ended)) judged_ready is

mismatch : IsJudged 1 (Some Device) (own 1 (stamped 7 ended)) → ⊥
mismatch is = none_some Device (one_judgement 1 None (Some Device) (own 1 (stamped 7 ended)) judged_ready is)

pub returns-clause-off : goal.returns-clause-off
returns-clause-off c law = off law

pub returns-clause-mismatch : goal.returns-clause-mismatch
returns-clause-mismatch c law = mismatch law
