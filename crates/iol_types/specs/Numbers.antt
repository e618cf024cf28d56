-- The numbers that ports and devices have.
use Rattle.std.specs.Prelude.{ℕ, ◌<◌, ◌≤◌}
use Rattle.iol_types.specs.declared.port_id.TheConstants.{PORTS}
use Rattle.iol_types.specs.declared.device_id.TheConstants.{DEVICE_NUMBERS}

-- a port's number is 1 to 32 (own)
abbrev pub IsPortNumber : ℕ → Type 0
IsPortNumber n = (1 ≤ n) × (n ≤ PORTS)

-- a DeviceID has three octets (standard, Direct Parameter page 1)
abbrev pub IsDeviceNumber : ℕ → Type 0
IsDeviceNumber n = n < DEVICE_NUMBERS
