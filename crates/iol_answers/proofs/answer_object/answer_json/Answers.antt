use Rattle.iol_answers.proofs.Plain.{answer_plain}
use Rattle.iol_answers.proofs.Shallow.{answer_shallow}
use Rattle.iol_answers.proofs.answer_object.answer_json.Goals as goal

pub json_line-requires-clause-plain : goal.json_line-requires-clause-plain
json_line-requires-clause-plain c = rw (c.in_ok-object_of.ensures) (answer_plain c.args.id c.args.answer.now)

pub json_line-requires-clause-shallow : goal.json_line-requires-clause-shallow
json_line-requires-clause-shallow c = rw (c.in_ok-object_of.ensures) (answer_shallow c.args.id c.args.answer.now)
