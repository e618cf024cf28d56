-- The pages that examples use.
use Rattle.std.specs.Prelude.{ℕ, Bool, [], ◌∷◌, List, map, Option}
use Rattle.iol_types.specs.Examples.{example_config}
use Rattle.iol_types.specs.declared.config.Validation.TheVariants.{NoCheck, TypeCompatibleV10, TypeCompatibleV11, BackupAndRestore, Restore}
use Rattle.iol_link.specs.Page.{PageValue}
use Rattle.iol_link.specs.Validation.{ident_fault}
use Rattle.iol_link.specs.declared.validation.IdentFault.{IdentFault}

-- for worked examples: the page of a device of vendor 500 and device 43981, with this RevisionID, with or without ISDU (own)
abbrev pub example_page : ℕ → Bool → PageValue
example_page revision has_isdu = record { vendor = 500; device = 43981; revision = revision; min_cycle_time = 23; has_isdu = has_isdu }

-- for worked examples: the faults of a device with this page under the validations 0 to 4, if vendor 500 and device 43981
-- are configured (own)
abbrev pub faults_of : PageValue → List (Option IdentFault)
faults_of page =
    map (λ validation. ident_fault (record example_config { validation = validation }) page)
    (NoCheck ∷ TypeCompatibleV10 ∷ TypeCompatibleV11 ∷ BackupAndRestore ∷ Restore ∷ [])
