use Rattle.std.proofs.Common.{refl}
use Rattle.std.proofs.lemmas.Result.{err_from_is_err_and}
use Rattle.iol_recovery.proofs.replay.replay_slots.Goals as goal

pub returns-in_err-body-clause-finds : goal.returns-in_err-body-clause-finds
returns-in_err-body-clause-finds g c = let p = err_from_is_err_and c.from_residual.result c.from_residual.ensures.1 in
    rw (p.1, p.2) (λ h. tt)

pub returns-in_err-body-clause-counted : goal.returns-in_err-body-clause-counted
returns-in_err-body-clause-counted g c = let p = err_from_is_err_and c.from_residual.result c.from_residual.ensures.1 in rw (p.1, p.2) refl
