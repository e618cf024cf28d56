use Rattle.iol_port.proofs.Reading.{read_is}
use Rattle.iol_explain.proofs.answer_words.answer_in.Goals as goal

pub returns : goal.returns
returns c = read_is _ _ c.read_answer.ensures.found c.read_answer.ensures.fault
