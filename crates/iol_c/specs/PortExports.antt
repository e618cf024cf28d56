-- The requests about a port.
use Rattle.std.specs.Prelude.{◌≡◌, ◌≤◌, ◌<◌, ℕ, List, length, Option}
use Rattle.arrayvec.specs.ArrayVec.{ArrayVec}
use Rattle.iol_handed.specs.declared.ask.Ask.TheVariants as ask
use Rattle.iol_handed.specs.declared.ask.PortAsk.{PortAsk}
use Rattle.iol_handed.specs.declared.ask.PortAsk.TheVariants as port
use Rattle.iol_c.specs.Asks.{Asks, IfValid, IsInvalid}
use Rattle.iol_c.specs.Codes.{code_of}
use Rattle.iol_c.specs.declared.handle.Handle.{Handle}

-- a request about a port is made, if the port's number is in range (own)
abbrev pub AsksPort : Option ℕ → PortAsk → Handle → Handle → ℕ → Type 0
AsksPort number asked old new code =
    IfValid number (IsInvalid old new code) (λ port. Asks (ask.Port port asked) old new (λ said. code ≡ code_of said))

-- a port is handed the answer of its device, of at most 238 octets (own)
abbrev pub AnswersPort : Option ℕ → List ℕ → Handle → Handle → ℕ → Type 0
AnswersPort number octets old new code =
    (238 < length octets → IsInvalid old new code)
    × (length octets ≤ 238 → (held : ArrayVec ℕ) × (held.items ≡ octets) × AsksPort number (port.Answer held) old new code)
