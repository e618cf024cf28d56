use Rattle.std.proofs.Common.{ap, ◌∙◌}
use Rattle.std.specs.Result.{result_err}
use Rattle.iol_link.proofs.AnswerTexts.{answer_is, answer_reads}
use Rattle.iol_link.proofs.FirstFaults.{answer_refused}
use Rattle.iol_link.proofs.reading.read_answer.Goals as goal

pub returns-clause-found : goal.returns-clause-found
returns-clause-found c = answer_is _ _ c.parse_answer.ensures

pub returns-clause-only : goal.returns-clause-only
returns-clause-only c = λ answer is. c.parse_answer.ensures ∙ answer_reads _ answer is

pub returns-clause-fault : goal.returns-clause-fault
returns-clause-fault c = ap result_err c.parse_answer.ensures ∙ answer_refused _
