-- The disk calls of a format, in order.
use Rattle.std.specs.Prelude.{List, [], ◌∷◌, ◌++◌, Result, Ok, Err}
use Rattle.iol_types.specs.State.{empty_state}
use Rattle.iol_record.specs.declared.version.Version.{Version}
use Rattle.iol_disk.specs.Disk.{Disk, After, HasFailed}
use Rattle.iol_disk.specs.Calls.{Call, write, sync, content_after_all, Made, FailedIn}
use Rattle.iol_disk.specs.declared.fault.DiskFault.TheVariants.{Read}
use Rattle.iol_disk.specs.Gate.{open_gate, closed_gate}
use Rattle.iol_layout.specs.AreaWrites.{slot_writes, header_write, port_writes}
use Rattle.iol_layout.specs.Geometry.{Geometry, geometry_octets}
use Rattle.iol_layout.specs.Layout.{laid_out, gate_at}
use Rattle.iol_layout.specs.declared.area.Area.TheVariants.{A, B}
use Rattle.iol_layout.specs.declared.geometry.TheConstants.{GEOMETRY, DISK_GATE}
use Rattle.iol_journal.specs.declared.formatting.FormatFault.{FormatFault}
use Rattle.iol_journal.specs.declared.formatting.FormatFault.TheVariants.{TooSmall, AlreadyFormatted, Memory, Disk as DiskFailed}

-- the geometry, and the gates of the areas: A is open, and B is closed (format, Orders of disk calls)
abbrev pub gate_writes : Version → Geometry → List Call
gate_writes version g =
    let layout = laid_out version g in
    write GEOMETRY (geometry_octets g) ∷ write (gate_at layout A) open_gate ∷ write (gate_at layout B) closed_gate ∷ []

-- the headers: A is in its first epoch, and B was never in use (format, Orders of disk calls)
abbrev pub header_writes : Version → Geometry → List Call
header_writes version g = header_write (laid_out version g) A 1 0 ∷ header_write (laid_out version g) B 0 0 ∷ []

-- the writes of an empty journal in a version: the geometry and the gates of the areas, the gates of A's slots, the headers, and the
-- records of A's ports, none of which was ever configured (format, Orders of disk calls)
abbrev pub journal_writes : Version → Geometry → List Call
journal_writes version g =
    gate_writes version g ++ slot_writes (laid_out version g) A ++ header_writes version g
    ++ port_writes (laid_out version g) A 0 (empty_state g.ports)

-- the calls that open the gate of the disk once everything written is durable: sync, open gate, sync (format, Orders of disk calls)
abbrev pub opening_calls : List Call
opening_calls = sync ∷ write DISK_GATE open_gate ∷ sync ∷ []

-- the disk calls of a format, apart from reads: a sync, the writes of an empty journal, and the opening of the disk's gate (format,
-- Orders of disk calls)
abbrev pub format_calls : Version → Geometry → List Call
format_calls version g = sync ∷ (journal_writes version g ++ opening_calls)

-- a format made these calls: all if it succeeds, none or only the first sync if it is refused, and otherwise those up to the one that
-- failed (format, Orders of disk calls)
abbrev pub MakesFormat : Version → Geometry → Disk → Disk → Result Unit FormatFault → Type 0
MakesFormat version g old new (Ok done) = Made (format_calls version g) old new
MakesFormat version g old new (Err TooSmall) = Made [] old new
MakesFormat version g old new (Err AlreadyFormatted) = Made (sync ∷ []) old new
MakesFormat version g old new (Err Memory) = Made (sync ∷ []) old new
MakesFormat version g old new (Err (DiskFailed Read)) = After (content_after_all (sync ∷ [])) old new × HasFailed old new
MakesFormat version g old new (Err (DiskFailed fault)) = FailedIn (format_calls version g) fault old new
