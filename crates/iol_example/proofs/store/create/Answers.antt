use Rattle.std.proofs.Common.{rules}
use Rattle.iol_types.specs.State.{empty_state}
use Rattle.iol_example.proofs.store.create.Goals as goal

pub returns-in-Ok-clause-empty : goal.returns-in-Ok-clause-empty
returns-in-Ok-clause-empty g c =
    c.in-Ok.ensures.means 0 (empty_state c.args.geometry.ports) (λ h image is. (c.in_default.ensures.done h image is).empty)

pub returns-clause-cause : goal.returns-clause-cause
returns-clause-cause g c = search rules
