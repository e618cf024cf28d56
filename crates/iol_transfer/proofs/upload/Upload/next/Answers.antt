use Rattle.std.proofs.Common.{sym, subst}
use Rattle.iol_transfer.specs.Asked.{IsNext}
use Rattle.iol_transfer.proofs.Feeding.{next-is}
use Rattle.iol_transfer.proofs.upload.Upload.next.Goals as goal

pub returns-clause-order : goal.returns-clause-order
returns-clause-order c = λ vendor device conversation since.
    subst (IsNext conversation) (sym c.request.ensures) (next-is vendor device conversation c.args.self.now since)
