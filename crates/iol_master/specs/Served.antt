-- The ports that are served, each over its link.
use Rattle.std.specs.Prelude.{◌≡◌, ◌+◌, ◌<◌, ℕ, List, map, Some, slice_get}
use Rattle.iol_types.specs.declared.port_id.TheConstants.{PORTS}
use Rattle.iol_master.specs.declared.working.ServedPort.{ServedPort}

-- each link has a port that is served over it: the link at place k has the port with the number k + 1, as far as there are numbers (own)
pub record AreServed {L F : Type 0} (links : List L) (served : List (ServedPort L F)) : Type 0 where
  pub over : map (λ (its : ServedPort L F). its.link) served ≡ links
  pub port : (k : ℕ) (its : ServedPort L F) → k < PORTS → slice_get served k ≡ Some its → its.port ≡ k + 1
