-- State_Property: the meaning of its octet.
use Rattle.std.specs.Prelude.{ℕ, ◌/◌, ◌%◌, ◌==◌, Bool, if◌then◌else◌}
use Rattle.iol_transfer.specs.declared.property.State.{State}
use Rattle.iol_transfer.specs.declared.property.State.TheVariants.{Inactive, Upload, Download, Locked}

-- the values that are read from State_Property: the state, and DS_UPLOAD_FLAG (standard, Data Storage object)
pub record PropertyValue : Type 0 where
  pub state : State
  pub flag : Bool

-- the state with this number: 0 Inactive, 1 Upload, 2 Download, 3 Data Storage locked (standard, Data Storage object)
abbrev pub state_of : ℕ → State
state_of number = if number == 0 then Inactive else if number == 1 then Upload else if number == 2 then Download else Locked

-- the state is in bits 1 and 2 of State_Property, DS_UPLOAD_FLAG in bit 7 (standard, Data Storage object)
abbrev pub property_of : ℕ → PropertyValue
property_of octet = record { state = state_of (octet / 2 % 4); flag = octet / 128 % 2 == 1 }
