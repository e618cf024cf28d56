use Rattle.std.proofs.Common.{rules}
use Rattle.iol_link.proofs.validation.validate.Goals as goal

pub returns-then-has_isdu : goal.returns-then-has_isdu
returns-then-has_isdu c = search rules

pub returns-then-ne : goal.returns-then-ne
returns-then-ne c = search rules
