-- The devices and the links that examples use.
use Rattle.std.specs.Prelude.{ℕ, zero, suc, Bool, true, false, List, [], ◌∷◌, Some, None}
use Rattle.iol_types.specs.declared.key.Key.{Key}
use Rattle.iol_types.specs.DataSet.{Entry}
use Rattle.iol_transfer.specs.declared.property.State.{State}
use Rattle.iol_transfer.specs.declared.property.State.TheVariants.{Inactive}
use Rattle.iol_sim.specs.Device.{Device}
use Rattle.iol_sim.specs.SimLink.{Sim, visit_of}
use Rattle.iol_sim.specs.Script.{Script}

-- for worked examples: a device with VendorID 01F4, DeviceID 00ABCD, V1.1, ISDU, and the parameters
-- 0040.00 with the octets 0A 64 and 0041.01 with 7F (own)
abbrev pub example_device : Device
example_device = record {
  vendor = 0x01F4;
  device = 0x00ABCD;
  revision = 0x11;
  isdu = true;
  parameters = (record { index = 0x0040; subindex = 0 }, 0x0A ∷ 0x64 ∷ []) ∷ (record { index = 0x0041; subindex = 1 }, 0x7F ∷ []) ∷ [];
  state = Inactive;
  flag = false;
  event = false;
}

-- for worked examples: the device in this state, with this flag (own)
abbrev pub in_state : State → Bool → Device
in_state state flag = record example_device { state = state; flag = flag }

-- for worked examples: the key of an Index and a Subindex (own)
abbrev pub key : ℕ → ℕ → Key
key index subindex = record { index = index; subindex = subindex }

-- for worked examples: the device with these octets in its parameter 0040.00 (own)
abbrev pub with_first : List ℕ → Device
with_first octets = record example_device {
  parameters = (record { index = 0x0040; subindex = 0 }, octets) ∷ (record { index = 0x0041; subindex = 1 }, 0x7F ∷ []) ∷ [];
}

-- for worked examples: this number of parameters with these octets, at Index 1 to this number, the highest first
-- (own)
abbrev pub alike : ℕ → List ℕ → List Entry
alike zero octets = []
alike (suc count) octets = (key (suc count) 0, octets) ∷ alike count octets

-- for worked examples: a link with one endless visit of the device, at this place and on this connection (own)
abbrev pub link_at : ℕ → ℕ → Sim
link_at place connection = record {
  visits = visit_of example_device None None ∷ [];
  place = place;
  connection = connection;
}

-- for worked examples: a link with one answer, a page and an event, on this connection (own)
abbrev pub script_at : ℕ → Script
script_at connection = record {
  left = (0x00 ∷ []) ∷ [];
  requests = [];
  page = Some (0x00 ∷ []);
  events = 0xFF91 ∷ [];
  connection = connection;
}
