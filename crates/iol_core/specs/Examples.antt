-- The cores of the worked examples.
use Rattle.std.specs.Prelude.{ℕ, List, [], ◌∷◌, Option, None}
use Rattle.iol_types.specs.Command.{CommandValue, Configure}
use Rattle.iol_types.specs.Examples.{example_config, example_port}
use Rattle.iol_types.specs.State.{State, empty_state}
use Rattle.iol_types.specs.declared.config.Validation.{Validation}
use Rattle.iol_core.specs.Core.{CoreView}
use Rattle.iol_core.specs.declared.permit.Grant.{Grant}
use Rattle.iol_core.specs.declared.permit.UploadGrant.{UploadGrant}

-- for worked examples: a core with this durable state at number 7, these waiting commands, and this permit of its only
-- port (own)
abbrev pub core_with : State → List CommandValue → Option Grant → CoreView
core_with durable queue permit =
    record { durable = durable; number = 7; queue = queue; flight = 0; permits = permit ∷ []; stopped = None; seen = [] }

-- for worked examples: a Configure of port 1 (own)
abbrev pub configure_one : CommandValue
configure_one = Configure 1 example_config

-- for worked examples: the same with this validation (own)
abbrev pub configure_with : Validation → CommandValue
configure_with validation = Configure 1 (record example_config { validation = validation })

-- for worked examples: a core whose only port was never configured, and one whose port has a set (own)
abbrev pub blank_core : List CommandValue → CoreView
blank_core queue = core_with (empty_state 1) queue None

abbrev pub core_with_set : List CommandValue → CoreView
core_with_set queue = core_with (example_port ∷ []) queue None

-- for worked examples: the grant of a permit to upload from port 1 at this revision (own)
abbrev pub grant_at : ℕ → UploadGrant
grant_at revision = record { port = 1; revision = revision; vendor = 500; device = 43981; connection = 2 }
