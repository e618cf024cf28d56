-- The reasons why a simulated device refuses a request, with their AdditionalCodes.
use Rattle.std.specs.Prelude.{ℕ}
use Rattle.iol_sim.specs.declared.refusal.Refusal.{Refusal}
use Rattle.iol_sim.specs.declared.refusal.Refusal.TheVariants.{NoIndex, NoSubindex, AccessDenied, OutOfRange, TooLong, TooShort}

-- the AdditionalCode of a refusal (standard, ErrorTypes)
abbrev pub code_of : Refusal → ℕ
code_of NoIndex = 0x11
code_of NoSubindex = 0x12
code_of AccessDenied = 0x23
code_of OutOfRange = 0x30
code_of TooLong = 0x33
code_of TooShort = 0x34
