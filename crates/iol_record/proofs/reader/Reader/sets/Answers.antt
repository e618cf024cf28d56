use Rattle.std.proofs.lemmas.Result.{err_from_is_err_and}
use Rattle.iol_record.proofs.SetsBegun.{fault_at_stored, fault_at_previous}
use Rattle.iol_record.proofs.reader.Reader.sets.Goals as goal

pub returns-in_err-stored : goal.returns-in_err-stored
returns-in_err-stored c =
    let p = err_from_is_err_and c.from_residual.result c.from_residual.ensures.1 in
    rw (p.1, p.2) (fault_at_stored c.args.version c.args.self.now _ c.in_err-stored.ensures.read)

pub returns-in_err-previous : goal.returns-in_err-previous
returns-in_err-previous c =
    let p = err_from_is_err_and c.from_residual-in_err-previous.result c.from_residual-in_err-previous.ensures.1 in
    rw (p.1, p.2) (fault_at_previous c.args.version c.args.self.now _ _ _ c.in_ok-stored.ensures.read c.in_ok-stored.ensures.begun
    c.in_err-previous.ensures)
