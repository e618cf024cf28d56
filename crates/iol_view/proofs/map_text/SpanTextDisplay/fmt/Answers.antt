use Rattle.std.proofs.Common.{rules}
use Rattle.iol_view.proofs.map_text.SpanTextDisplay.fmt.Goals as goal

pub returns-else-is_one-clause-writes : goal.returns-else-is_one-clause-writes
returns-else-is_one-clause-writes g c = search rules
