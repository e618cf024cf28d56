use Rattle.std.proofs.Common.{◌≡◌, ap, arith}
use Rattle.std.specs.Prelude.{None}
use Rattle.iol_types.specs.State.{Port, empty_state}
use Rattle.iol_core.specs.Events.{stamped}
use Rattle.iol_headline.proofs.Revisions.{some_is}
use Rattle.iol_headline.proofs.examples.an_old_revision_is_refused.Goals as goal
use Rattle.iol_headline.specs.Examples.{example_config, example_work, reconfigured}
use Rattle.iol_headline.specs.Works.{IsWorkOf}

-- the port after both configurations
abbrev twice : Port
twice = record { config = example_config; revision = 2; stored = None; previous = None }

refused : IsWorkOf 0 (empty_state 2) 1 (example_work None) (stamped 7 reconfigured) → ⊥
refused is =
    let told : 1 ≡ is.kept.revision = is.revision in
    let right : 2 ≡ is.kept.revision = ap (λ (p : Port). p.revision) (some_is twice is.kept is.there) in
    omega (arith, told, right)

pub returns : goal.returns
returns c law = refused law
