-- The text of a map of a disk.
use Rattle.std.specs.Prelude.{◌≡◌, ◌⊎◌, Result, ℕ, ◌+◌, ◌-◌, ◌==◌, nat_le, Bool, true, false, ◌&&◌, if◌then◌else◌}
use Rattle.std.specs.Prelude.{List, [], ◌++◌, codes, string_bytes, Option, Some, None, Ok, Err}
use Rattle.std.specs.List.{flat_map}
use Rattle.std.specs.Fmt.{decimal}
use Rattle.iol_types.specs.State.{State}
use Rattle.iol_record.specs.declared.version.Version.{Version}
use Rattle.iol_record.specs.declared.version.Version.TheVariants.{One, Two}
use Rattle.iol_disk.specs.Disk.{Disk, Shows}
use Rattle.iol_journal.specs.Geometry.{Geometry, IsGeometry}
use Rattle.iol_journal.specs.Layout.{Layout, laid_out, layout_of}
use Rattle.iol_journal.specs.Meaning.{meaning, standing_in, unformatted, too_small, damaged}
use Rattle.iol_journal.specs.Area.{Area}
use Rattle.iol_journal.specs.Area.TheVariants.{A, B}
use Rattle.iol_journal.specs.Head.{Head}
use Rattle.iol_journal.specs.RecoverCause.{RecoverCause}
use Rattle.iol_journal.specs.RecoverCause.TheVariants as reading
use Rattle.iol_journal.specs.Header.{Header}
use Rattle.iol_journal.specs.Numbers.{LAST_NUMBER}
use Rattle.iol_journal.specs.InUse.{InUse}
use Rattle.iol_commands.specs.declared.fault.Fault.{Fault}
use Rattle.iol_commands.specs.declared.fault.Fault.TheVariants as fault
use Rattle.iol_view.specs.declared.map_front.Standing.{Standing}
use Rattle.iol_view.specs.declared.map_front.Standing.TheVariants as stands
use Rattle.iol_view.specs.declared.map_layouts.Layouts.{Layouts}
use Rattle.iol_view.specs.declared.map_lines.Line.{Line}
use Rattle.iol_view.specs.declared.map_lines.Part.{Part}
use Rattle.iol_view.specs.declared.map_lines.Part.TheVariants as part
use Rattle.iol_view.specs.declared.map_lines.Span.{Span}
use Rattle.iol_view.specs.declared.map_outcome.Outcome.{Outcome}
use Rattle.iol_view.specs.declared.map_outcome.Outcome.TheVariants as ending
use Rattle.iol_view.specs.declared.map_slots.Reach.{Reach}
use Rattle.iol_view.specs.declared.map_slots.Reach.TheVariants as reach

-- the outcome of a recovery; if the disk is honest, it is the number in the meaning of what is read from the disk, or the first
-- cause why that has no meaning (format, Maps)
abbrev pub TellsOutcome : Disk → Outcome → Type 0
TellsOutcome disk (ending.Recovered number) =
    (state : State) × Shows disk (λ image. meaning disk.sectors image ≡ Ok (record { number = number; state = state }))
TellsOutcome disk ending.NotFormatted = Shows disk (λ image. standing_in disk.sectors image ≡ Err unformatted)
TellsOutcome disk ending.TooSmall = Shows disk (λ image. standing_in disk.sectors image ≡ Err too_small)
TellsOutcome disk (ending.Damaged sector) = Shows disk (λ image. standing_in disk.sectors image ≡ Err (damaged sector))

-- why a disk has no map: a disk call failed, or memory ran out; what is on the disk is never the cause (format, Maps)
abbrev pub IsMapCause : Fault → Type 0
IsMapCause why = (why ≡ fault.Disk) ⊎ (why ≡ fault.Memory)

-- the record that was read of a port, or `None` if its sectors hold none, or otherwise why it was not read (format, Maps)
abbrev pub record_in : {A : Type 0} → Result A RecoverCause → Result (Option A) RecoverCause
record_in (Ok port) = Ok (Some port)
record_in (Err (reading.Damaged sector)) = Ok None
record_in (Err why) = Err why

-- the sector that a recovery finds damaged, if it finds one (format, Maps)
abbrev pub damaged_in : Outcome → Option ℕ
damaged_in (ending.Damaged sector) = Some sector
damaged_in other = None

-- the words for the outcome of a recovery (format, Maps)
abbrev pub outcome_text : Outcome → List ℕ
outcome_text (ending.Recovered number) = codes "recovered " ++ decimal number
outcome_text ending.NotFormatted = codes "not recovered: the disk is not formatted"
outcome_text ending.TooSmall = codes "not recovered: the disk is too small"
outcome_text (ending.Damaged sector) = codes "not recovered: damaged at sector " ++ decimal sector

-- a word with a number, or with the first and the last of several (format, Maps)
abbrev pub span_text : List ℕ → Span → List ℕ
span_text word span =
    if span.first == span.last then word ++ (codes " " ++ decimal span.first)
    else word ++ (codes "s " ++ (decimal span.first ++ (codes " to " ++ decimal span.last)))

-- the part of a disk that a line shows, written before its sectors (format, Maps)
abbrev pub part_text : Part → Span → List ℕ
part_text part.Alone numbers = []
part_text part.AreaA numbers = codes "area A, "
part_text part.AreaB numbers = codes "area B, "
part_text part.Port numbers = codes "  " ++ (span_text (codes "port") numbers ++ codes ", ")
part_text part.Slot numbers = codes "  " ++ (span_text (codes "slot") numbers ++ codes ", ")
part_text part.Unused numbers = codes "  "

-- the end of a line, which has words if a recovery ends at its sectors (format, Maps)
abbrev pub damage_text : Bool → List ℕ
damage_text true = codes ", damaged: a recovery ends here"
damage_text false = []

-- the front of a line: the part of a disk that it shows, and its sectors (format, Maps)
abbrev pub front_text : Line → List ℕ
front_text line = part_text line.part line.numbers ++ (span_text (codes "sector") line.sectors ++ codes ": ")

-- a line: the part of a disk that it shows, its sectors, and what it says of them (format, Maps)
abbrev pub line_text : Line → List ℕ
line_text line = front_text line ++ (string_bytes line.text ++ damage_text line.damaged)

-- lines, each with its line feed (format, Maps)
abbrev pub lines_text : List Line → List ℕ
lines_text lines = flat_map (λ line. line_text line ++ codes "\n") lines

-- a map: the number of sectors, the outcome of a recovery, and the lines (format, Maps)
abbrev pub map_text : ℕ → Outcome → List Line → List ℕ
map_text sectors told lines =
    codes "sectors " ++ (decimal sectors ++ (codes "\n" ++ (outcome_text told ++ (codes "\n" ++ lines_text lines))))

-- a text maps a disk, and says the outcome of its recovery (format, Maps)
abbrev pub TellsMap : Disk → List ℕ → Type 0
TellsMap disk text =
    (told : Outcome) × (lines : List Line) × TellsOutcome disk told × (text ≡ map_text disk.sectors told lines)

-- a text maps some disk (own)
abbrev pub IsSomeMap : List ℕ → Type 0
IsSomeMap text = (sectors : ℕ) × (told : Outcome) × (lines : List Line) × (text ≡ map_text sectors told lines)

-- what a drawing prints: the number of sectors that it shows (format, Maps)
abbrev pub mapped_text : ℕ → List ℕ
mapped_text sectors = codes "mapped " ++ (decimal sectors ++ codes " sectors\n")

-- the layouts of the areas of a geometry: in version 1, and in the newest version if an area keeps a slot in it (format, Maps)
pub record AreLayoutsOf (g : Geometry) (layouts : Layouts) : Type 0 where
  pub older : layouts.older ≡ laid_out One g
  pub newest : IsGeometry g → layouts.newest ≡ layout_of g
  pub no_slot : (IsGeometry g → ⊥) → layouts.newest ≡ laid_out One g

-- the layout by which an area is mapped: in the version that its header names, or in the newest if it names none
-- (format, Maps)
abbrev pub layout_in : Option Version → Layouts → Layout
layout_in (Some One) layouts = layouts.older
layout_in (Some Two) layouts = layouts.newest
layout_in None layouts = layouts.newest

-- the standing of an open area beside the area that is in use (own)
abbrev pub standing_beside : Area → Area → Standing
standing_beside A A = stands.InUse
standing_beside A B = stands.Older
standing_beside B A = stands.Older
standing_beside B B = stands.InUse

-- the standing of an area whose gate is open, by the area that is in use, if one is (format, Maps)
abbrev pub standing_of : Area → Option InUse → Standing
standing_of area None = stands.Undecided
standing_of area (Some used) = standing_beside area used.area

-- the words for the gate of an area with this standing (format, Maps)
abbrev pub gate_text : Standing → List ℕ
gate_text stands.Closed = codes "gate closed"
gate_text other = codes "gate open"

-- the words for whether an area with this standing is in use, and why (format, Maps)
abbrev pub standing_text : Standing → List ℕ
standing_text stands.InUse = codes "in use: open, greatest epoch"
standing_text stands.Older = codes "not in use: older"
standing_text stands.Undecided = codes "not in use: no area is"
standing_text stands.Closed = codes "not in use: closed"

-- the version that a header names, in words (format, Maps)
abbrev pub version_text : Option Version → List ℕ
version_text None = codes "no version"
version_text (Some One) = codes "version 1"
version_text (Some Two) = codes "version 2"

-- what a map says of an area (format, Maps)
abbrev pub area_text : Standing → Header → List ℕ
area_text standing header =
    gate_text standing ++ (codes ", epoch " ++ (decimal header.epoch ++ (codes ", base " ++ (decimal header.base ++ (codes ", "
    ++ (version_text header.version ++ (codes ", " ++ standing_text standing)))))))

-- how far a recovery gets at the first slot of an area with this standing (format, Maps)
abbrev pub first_reach : Standing → Reach
first_reach stands.InUse = reach.Next
first_reach other = reach.Idle

-- how far a recovery gets at the next slot, given this slot: no further than the first closed gate (format, Maps)
abbrev pub next_reach : Reach → Option Head → Reach
next_reach reach.Next None = reach.Behind
next_reach reach.Next (Some head) = reach.Next
next_reach reach.Behind head = reach.Behind
next_reach reach.Idle head = reach.Idle

-- a head gives numbers to its commands (format, Maps)
abbrev pub has_numbers : Head → Bool
has_numbers head = nat_le 1 head.count && nat_le head.first LAST_NUMBER

-- the words for the commands that a head reports (format, Maps)
abbrev pub commands_text : Head → List ℕ
commands_text head =
    if has_numbers head then span_text (codes "command") (record { first = head.first; last = head.first + head.count - 1 })
    else codes "first command " ++ (decimal head.first ++ (codes ", count " ++ decimal head.count))

-- the epoch of a head, if it is not that of the area, after what the head says (format, Maps)
abbrev pub epoch_text : ℕ → Head → List ℕ
epoch_text epoch head = if head.epoch == epoch then [] else codes ", epoch " ++ decimal head.epoch

-- what the head of a body says, in an area of this epoch (format, Maps)
abbrev pub head_text : ℕ → Head → List ℕ
head_text epoch head = commands_text head ++ (codes ", " ++ (decimal head.octets ++ (codes " octets" ++ epoch_text epoch head)))

-- what a map says of a slot of an area of this epoch (format, Maps)
abbrev pub slot_text : ℕ → Option Head → Reach → List ℕ
slot_text epoch None reach.Next = codes "gate closed, the first: slots behind it are not read"
slot_text epoch None reach.Behind = codes "gate closed"
slot_text epoch None reach.Idle = codes "gate closed"
slot_text epoch (Some head) reach.Behind = codes "gate open behind a closed one: not read"
slot_text epoch (Some head) reach.Next = head_text epoch head
slot_text epoch (Some head) reach.Idle = head_text epoch head
