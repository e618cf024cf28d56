use Rattle.iol_flush.proofs.Steps.{stands_after}
use Rattle.iol_flush.proofs.flusher.Flusher.new.Goals as goal

pub invariant_of-result : goal.invariant_of-result
invariant_of-result g c = (
  stands_after g.F.Name.front.start c.args.publisher c.args.journal.standing c.args.journal.history c.requires.list
      c.number-number.ensures.leads,
  tt,
)
