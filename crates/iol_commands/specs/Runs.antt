-- Which texts can be run, and why others are not.
use Rattle.std.specs.Prelude.{◌≡◌, ◌⊎◌, List, ℕ, true, IsSomeAnd}
use Rattle.iol_script.specs.Script.{Said, IsText, said_in, fits_ports}
use Rattle.iol_commands.specs.Fault.{status_of}
use Rattle.iol_commands.specs.Geometry.{HasGeometry}
use Rattle.iol_commands.specs.Played.{TellsRun}
use Rattle.iol_commands.specs.declared.fault.Fault.{Fault}
use Rattle.iol_commands.specs.declared.fault.Fault.TheVariants.{Words, Script, Geometry, Memory}

-- what a script says can be run: its devices and the steps of its ports are at its ports, and its ports and slots are
-- the numbers of a geometry (format, Scripts)
abbrev pub MayRun : Said → Type 0
MayRun said = (fits_ports said ≡ true) × HasGeometry said.ports said.slots

-- a text can be run: it is a script, and what it says can be run (format, Scripts)
abbrev pub CanRun : List ℕ → Type 0
CanRun text = IsText text × IsSomeAnd (said_in text) MayRun

-- why a text was not run: it is no script, or a device or a step of a port is not at its ports; its numbers are no geometry; or
-- it can be run, and the run failed. The command may run out of memory for any text (format, Texts)
abbrev pub IsCause : List ℕ → Fault → Type 0
IsCause text Script = IsText text → IsSomeAnd (said_in text) (λ said. fits_ports said ≡ true) → ⊥
IsCause text Geometry =
    IsText text × IsSomeAnd (said_in text) (λ said. (fits_ports said ≡ true) × (HasGeometry said.ports said.slots → ⊥))
IsCause text Memory = IsText text
IsCause text Words = ⊥
IsCause text fault = CanRun text

-- a text is not run, or its run is not printed in the requested form. Either a fault with this status is the cause, and nothing is written
-- to the output; or there is a text to print, writing it failed, and nothing is written to the error output (format, Texts)
abbrev pub IsSilentOver : {O E : Type 0} → (List ℕ → List ℕ → Type 0) → List ℕ → ℕ → O → O → E → E → Type 0
IsSilentOver Tells text status out written err told =
    ((fault : Fault) × IsCause text fault × (status ≡ status_of fault) × (written ≡ out))
    ⊎ ((status ≡ 1) × CanRun text × ((printed : List ℕ) × Tells text printed) × (told ≡ err))

-- a text is not run, or its run is not printed as lines (format, Texts)
abbrev pub IsSilent : {O E : Type 0} → List ℕ → ℕ → O → O → E → E → Type 0
IsSilent text status out written err told = IsSilentOver TellsRun text status out written err told
