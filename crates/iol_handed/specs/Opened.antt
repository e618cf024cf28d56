-- The outcome of an opening.
use Rattle.iol_recovery.specs.declared.cause.RecoverCause.{RecoverCause}
use Rattle.iol_recovery.specs.declared.cause.RecoverCause.TheVariants as cause
use Rattle.iol_handed.specs.Found.{FoundView}
use Rattle.iol_handed.specs.Opening.{OpeningView}
use Rattle.iol_handed.specs.declared.opened.Opened.{Opened}
use Rattle.iol_handed.specs.declared.opened.Opened.TheVariants.{GoesOn, Found, Refused}

-- a fact holds of what was found, if anything was (own)
abbrev pub IfFound : {W : Type 0} → Opened W → (FoundView → Type 0) → Type 0
IfFound (GoesOn opening) fact = Unit {0}
IfFound (Found found) fact = fact found
IfFound (Refused cause) fact = Unit {0}

-- a fact holds of the cause of a refusal, if there is one (own)
abbrev pub IfRefused : {W : Type 0} → Opened W → (RecoverCause → Type 0) → Type 0
IfRefused (GoesOn opening) fact = Unit {0}
IfRefused (Found found) fact = Unit {0}
IfRefused (Refused cause) fact = fact cause

-- a fact holds of an opening that continues, if it does (own)
abbrev pub IfGoesOn : {W : Type 0} → Opened W → (OpeningView → Type 0) → Type 0
IfGoesOn (GoesOn opening) fact = fact opening
IfGoesOn (Found found) fact = Unit {0}
IfGoesOn (Refused cause) fact = Unit {0}

-- a flash is refused for what it holds, and not because a call has failed or memory ran out (own)
abbrev pub IsOfFlash : RecoverCause → Type 0
IsOfFlash (cause.Disk fault) = ⊥
IsOfFlash cause.Memory = ⊥
IsOfFlash why = Unit {0}
