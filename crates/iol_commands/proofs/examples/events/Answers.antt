use Rattle.std.proofs.Common.{refl}
use Rattle.std.specs.Fmt.{digits}
use Rattle.iol_commands.proofs.examples.events.Goals as goal

pub returns-clause-accepted : goal.returns-clause-accepted
unfolding digits
returns-clause-accepted c = refl

pub returns-clause-refused : goal.returns-clause-refused
unfolding digits
returns-clause-refused c = refl

pub returns-clause-page : goal.returns-clause-page
unfolding digits
returns-clause-page c = refl

pub returns-clause-exchange : goal.returns-clause-exchange
unfolding digits
returns-clause-exchange c = refl

pub returns-clause-lost_at_a_request : goal.returns-clause-lost_at_a_request
unfolding digits
returns-clause-lost_at_a_request c = refl

pub returns-clause-lost_at_the_page : goal.returns-clause-lost_at_the_page
unfolding digits
returns-clause-lost_at_the_page c = refl

pub returns-clause-acknowledged : goal.returns-clause-acknowledged
unfolding digits
returns-clause-acknowledged c = refl
