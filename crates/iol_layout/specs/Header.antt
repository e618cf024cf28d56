-- The header of an area.
use Rattle.std.specs.Prelude.{ℕ, ◌+◌, ◌==◌, nat_le, Bool, false, ◌&&◌, if◌then◌else◌, List, [], ◌∷◌, ◌++◌, Option, Some, None, unwrap_or}
use Rattle.std.specs.Int.{w8, w64, to_be_bytes}
use Rattle.iol_record.specs.Record.{newest}
use Rattle.iol_record.specs.declared.version.Version.{Version}
use Rattle.iol_record.specs.declared.version.Version.TheVariants.{One, Two}
use Rattle.iol_layout.specs.Octets.{number_at, padded}
use Rattle.iol_layout.specs.declared.header.Header.{Header}
use Rattle.iol_layout.specs.declared.header.TheConstants.{LAST_NUMBER, NAME_OF_ONE, NAME_OF_TWO}

-- the octet that names a version (format, Headers)
abbrev pub name_of : Version → ℕ
name_of One = NAME_OF_ONE
name_of Two = NAME_OF_TWO

-- the version that an octet names, if it names one (format, Headers)
abbrev pub version_named : ℕ → Option Version
version_named octet = if octet == NAME_OF_ONE then Some One else if octet == NAME_OF_TWO then Some Two else None

-- the header that a sector holds: the epoch, the number of commands before the area's first, and the version of its layout
-- (format, Headers)
unfoldable pub header_of : List ℕ → Header
header_of octets =
    record { epoch = number_at w64 0 octets; base = number_at w64 8 octets; version = version_named (number_at w8 16 octets) }

-- how far an epoch may be ahead of the number of commands before it: each except the first began after at least one
-- command, and in version 2 one more may have begun without one (format, Headers)
abbrev pub epochs_ahead : Version → ℕ
epochs_ahead One = 1
epochs_ahead Two = 2

-- whether an area of a named version may be in use under this epoch and after this number of commands (format, Headers)
abbrev pub is_sound_in : Option Version → ℕ → ℕ → Bool
is_sound_in None epoch base = false
is_sound_in (Some version) epoch base = nat_le 1 epoch && nat_le epoch (base + epochs_ahead version) && nat_le base LAST_NUMBER

-- whether an area with this header may be in use (format, Headers)
abbrev pub is_sound : Header → Bool
is_sound header = is_sound_in header.version header.epoch header.base

-- the version of an area in use; the newest if none is named (format, Headers)
abbrev pub version_in : Header → Version
version_in header = unwrap_or header.version newest

-- the sector that holds a header: epoch 8, base 8, the version's octet, and zeros (format, Headers)
abbrev pub header_octets : Version → ℕ → ℕ → List ℕ
header_octets version epoch base = padded (to_be_bytes w64 epoch ++ to_be_bytes w64 base ++ (name_of version ∷ []))
