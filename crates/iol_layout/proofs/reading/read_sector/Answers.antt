use Rattle.std.proofs.lemmas.Result.{err_from_is_err_and}
use Rattle.iol_layout.proofs.reading.read_sector.Goals as goal

pub returns-in_err-read-clause-fault : goal.returns-in_err-read-clause-fault
returns-in_err-read-clause-fault g c = let p = err_from_is_err_and c.from_residual.result c.from_residual.ensures.1 in
    rw (p.1, p.2) c.in_err-read.ensures.fault
