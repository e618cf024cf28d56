use Rattle.std.proofs.Common.{ap, ◌∙◌, subst}
use Rattle.iol_sim.specs.Device.{Answers}
use Rattle.iol_sim.specs.SimLink.{VisitValue, after_answer}
use Rattle.iol_sim.proofs.visit.Visit.exchange.Goals as goal

pub returns : goal.returns
returns c =
    let answered = λ (visit : VisitValue). Answers visit.device c.args.request.now c.answer-answer.result.items
    c.answer-answer.new.self in (
      c.answer-answer.new.self,
      subst answered c.self.view_is c.answer-answer.ensures,
      c.count.ensures ∙ ap (λ (visit : VisitValue). after_answer visit c.answer-answer.new.self) c.self.view_is,
    )
