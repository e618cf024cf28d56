use Rattle.std.proofs.Common.{rules}
use Rattle.iol_explain.proofs.answer_words.AnswerWordsDisplay.fmt.Goals as goal

pub returns-in-Ok-ReadOk-clause-writes : goal.returns-in-Ok-ReadOk-clause-writes
returns-in-Ok-ReadOk-clause-writes g c = search rules

pub returns-in-Ok-WriteOk-clause-writes : goal.returns-in-Ok-WriteOk-clause-writes
returns-in-Ok-WriteOk-clause-writes g c = search rules

pub returns-in-Ok-ReadFault-clause-writes : goal.returns-in-Ok-ReadFault-clause-writes
returns-in-Ok-ReadFault-clause-writes g c = search rules

pub returns-in-Ok-WriteFault-clause-writes : goal.returns-in-Ok-WriteFault-clause-writes
returns-in-Ok-WriteFault-clause-writes g c = search rules
