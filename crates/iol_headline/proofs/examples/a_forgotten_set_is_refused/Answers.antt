use Rattle.std.specs.Prelude.{None}
use Rattle.iol_types.specs.State.{empty_state}
use Rattle.iol_core.specs.Events.{stamped}
use Rattle.iol_headline.proofs.Revisions.{none_some}
use Rattle.iol_headline.proofs.examples.a_forgotten_set_is_refused.Goals as goal
use Rattle.iol_headline.specs.Examples.{example_work, ended}
use Rattle.iol_headline.specs.Works.{IsWorkOf}

refused : IsWorkOf 0 (empty_state 2) 1 (example_work None) (stamped 7 ended) → ⊥
refused is = none_some 0x024F is.checksum

pub returns : goal.returns
returns c law = refused law
