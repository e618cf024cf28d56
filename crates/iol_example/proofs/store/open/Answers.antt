use Rattle.std.proofs.Common.{rules}
use Rattle.iol_example.proofs.store.open.Goals as goal

pub returns-clause-means : goal.returns-clause-means
returns-clause-means g c = search rules

pub returns-clause-cause : goal.returns-clause-cause
returns-clause-cause g c = c.recover.ensures.cause

pub returns-clause-any_moment : goal.returns-clause-any_moment
returns-clause-any_moment g c = c.recover.ensures.any_moment
