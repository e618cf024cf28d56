use Rattle.std.proofs.Common.{rules}
use Rattle.iol_transfer.proofs.reading.keep_key.Goals as goal

pub returns-clause-kept : goal.returns-clause-kept
returns-clause-kept c = search rules

pub returns-clause-only_for_a_new_key : goal.returns-clause-only_for_a_new_key
returns-clause-only_for_a_new_key c = search rules
