use Rattle.std.proofs.Common.{rules}
use Rattle.iol_recovery.proofs.opening.find_geometry.Goals as goal

pub returns-in-None-clause-finds : goal.returns-in-None-clause-finds
returns-in-None-clause-finds g c = search rules

pub returns-in-Some-geometry-clause-finds : goal.returns-in-Some-geometry-clause-finds
returns-in-Some-geometry-clause-finds g c = search rules
