use Rattle.std.proofs.Common.{rules}
use Rattle.iol_transfer.proofs.reading.next_in.Goals as goal

pub returns-else-is_reserved-clause-next : goal.returns-else-is_reserved-clause-next
returns-else-is_reserved-clause-next c = search rules
