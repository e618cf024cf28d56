use Rattle.std.proofs.Common.{rules}
use Rattle.iol_link.proofs.writing.write_answer.Goals as goal

pub returns-in-Busy : goal.returns-in-Busy
returns-in-Busy c = search rules
