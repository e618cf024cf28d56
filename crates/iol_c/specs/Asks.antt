-- The effect of a call on a handle.
use Rattle.std.specs.Prelude.{◌≡◌, ◌&&◌, Bool, true, false, ℕ, nat_le, Option, None, Some}
use Rattle.iol_handed.specs.declared.ask.SessionAnswer.{SessionAnswer}
use Rattle.iol_handed.specs.declared.ask.Ask.{Ask}
use Rattle.iol_c.specs.Hosting.{Hosts}
use Rattle.iol_c.specs.declared.handle.Handle.{Handle}

-- a handle serves this request, and its answer is shown this way (own)
abbrev pub Asks : Ask → Handle → Handle → (SessionAnswer → Type 0) → Type 0
Asks asked old new Shows =
    (said : SessionAnswer) × Hosts asked old.is_open old.session new.is_open new.session said × Shows said

-- an argument is out of its range, and nothing changes (own)
abbrev pub IsInvalid : Handle → Handle → ℕ → Type 0
IsInvalid old new code = (code ≡ 5) × (new ≡ old)

-- a fact holds of an argument that is in its range, or another one if it is not (own)
abbrev pub IfValid : {A : Type 0} → Option A → Type 0 → (A → Type 0) → Type 0
IfValid None Refused Fact = Refused
IfValid (Some value) Refused Fact = Fact value

-- the port with this number, if it is 1 to 32 (own)
abbrev pub port_in : ℕ → Bool → Option ℕ
port_in number true = Some number
port_in number false = None

abbrev pub port_of : ℕ → Option ℕ
port_of number = port_in number (nat_le 1 number && nat_le number 32)
