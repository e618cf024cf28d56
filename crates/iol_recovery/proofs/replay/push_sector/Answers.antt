use Rattle.std.proofs.lemmas.Result.{err_from_is_err_and}
use Rattle.iol_recovery.proofs.replay.push_sector.Goals as goal

pub returns-in_err-read_sector-clause-fault : goal.returns-in_err-read_sector-clause-fault
returns-in_err-read_sector-clause-fault g c = let p = err_from_is_err_and c.from_residual.result c.from_residual.ensures.1 in
    rw (p.1, p.2) tt

pub returns-in_err-read_sector-clause-counted : goal.returns-in_err-read_sector-clause-counted
returns-in_err-read_sector-clause-counted g c = let p = err_from_is_err_and c.from_residual.result c.from_residual.ensures.1 in
    rw (p.1, p.2) c.in_err-read_sector.ensures.fault
