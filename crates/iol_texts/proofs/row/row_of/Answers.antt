use Rattle.std.proofs.Common.{rules}
use Rattle.iol_texts.proofs.row.row_of.Goals as goal

pub returns-in-Some-clause-row : goal.returns-in-Some-clause-row
returns-in-Some-clause-row c = search rules

pub returns-in-Some-clause-decides : goal.returns-in-Some-clause-decides
returns-in-Some-clause-decides c = search rules

pub returns-in-Some-2-clause-row : goal.returns-in-Some-2-clause-row
returns-in-Some-2-clause-row c = search rules

pub returns-in-Some-2-clause-decides : goal.returns-in-Some-2-clause-decides
returns-in-Some-2-clause-decides c = search rules
