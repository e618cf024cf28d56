-- Facts of the outcome of an opening.
use Rattle.iol_recovery.specs.declared.cause.RecoverCause.{RecoverCause}
use Rattle.iol_handed.specs.Found.{FoundView}
use Rattle.iol_handed.specs.Opened.{IfFound, IfRefused}
use Rattle.iol_handed.specs.declared.opened.Opened.{Opened}
use Rattle.iol_handed.specs.declared.opened.Opened.TheVariants.{GoesOn, Found, Refused}

-- a fact of what was found may be weakened
pub found-weaker : {W : Type 0} (opened : Opened W) (P Q : FoundView → Type 0) → ((found : FoundView) → P found → Q found)
    → IfFound opened P → IfFound opened Q
found-weaker (GoesOn opening) P Q weaker fact = tt
found-weaker (Found found) P Q weaker fact = weaker found fact
found-weaker (Refused cause) P Q weaker fact = tt

-- a fact of the cause of a refusal may be weakened
pub refused-weaker : {W : Type 0} (opened : Opened W) (P Q : RecoverCause → Type 0) → ((cause : RecoverCause) → P cause → Q cause)
    → IfRefused opened P → IfRefused opened Q
refused-weaker (GoesOn opening) P Q weaker fact = tt
refused-weaker (Found found) P Q weaker fact = tt
refused-weaker (Refused cause) P Q weaker fact = weaker cause fact
