use Rattle.iol_answers.proofs.answer_text.RequestAnswerDisplay.fmt.Goals as goal

pub returns-in-Port-clause-writes : goal.returns-in-Port-clause-writes
returns-in-Port-clause-writes g c = λ plain ok. rw c.in-Port.is (c.write_port.ensures plain ok)
