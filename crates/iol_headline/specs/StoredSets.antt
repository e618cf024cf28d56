-- Where the sets of a port come from.
use Rattle.std.specs.Prelude.{◌≡◌, ◌⊎◌, ℕ, List, ◌∷◌, ◌++◌, Some}
use Rattle.iol_types.specs.Command.{CommandValue, Store}
use Rattle.iol_types.specs.State.{State, Port, Stored, after, port_numbered}

-- a port has this set, as its stored set or as the previous one (own)
abbrev pub HasSet : Port → Stored → Type 0
HasSet port stored = (port.stored ≡ Some stored) ⊎ (port.previous ≡ Some stored)

-- the port with this number had the set at the start (own)
abbrev pub HadSet : State → ℕ → Stored → Type 0
HadSet start number stored = (port : Port) × (port_numbered start number ≡ Some port) × HasSet port stored

-- one of these commands is a Store of the set for the port with this number, and the configuration that is recorded with
-- the set is the one that the port then had (own)
pub record WasStored (start : State) (commands : List CommandValue) (number : ℕ) (stored : Stored) : Type 0 where
  pub early : List CommandValue
  pub revision : ℕ
  pub late : List CommandValue
  pub port : Port
  pub split : commands ≡ early ++ Store number revision stored.set ∷ late
  pub there : port_numbered (after start early) number ≡ Some port
  pub recorded : stored.recorded ≡ port.config

-- each set that a port has after these commands was there at the start, or one of them stored it (own)
abbrev pub SetsWereStored : State → List CommandValue → Type 0
SetsWereStored start commands =
    (number : ℕ) (port : Port) (stored : Stored) → port_numbered (after start commands) number ≡ Some port → HasSet port stored
    → HadSet start number stored ⊎ WasStored start commands number stored
