-- The lines and requests of the examples.
use Rattle.std.specs.Prelude.{ℕ, zero, suc, List, [], ◌∷◌, codes, Option, Some, None}
use Rattle.iol_types.specs.declared.command.Change.TheVariants as change
use Rattle.iol_types.specs.declared.config.PortConfig.{PortConfig}
use Rattle.iol_types.specs.declared.config.PortMode.TheVariants.{IolManual}
use Rattle.iol_types.specs.declared.config.Validation.TheVariants.{BackupAndRestore}
use Rattle.iol_requests.specs.Json.{Asking}
use Rattle.iol_requests.specs.declared.request.Request.{Request}
use Rattle.iol_requests.specs.declared.request.Request.TheVariants.{Ask}

-- for worked examples: a configuration with this label (own)
abbrev pub labelled : List ℕ → PortConfig
labelled label = record { mode = IolManual; validation = BackupAndRestore; vendor = 500; device = 43981; label = label }

-- for worked examples: a request to configure port 1 with this label (own)
abbrev pub configure_first : List ℕ → Request
configure_first label = Ask (change.Configure 1 (labelled label))

-- for worked examples: this request, without an id (own)
abbrev pub plain : Request → Option Asking
plain request = Some (record { id = None; request = request })

-- for worked examples: a text of `count` spaces (own)
abbrev pub blanks : ℕ → List ℕ
blanks zero = []
blanks (suc count) = 0x20 ∷ blanks count
