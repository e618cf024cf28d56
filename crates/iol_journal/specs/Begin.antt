-- Which batches a journal accepts.
use Rattle.std.specs.Prelude.{◌≡◌, ◌+◌, ◌-◌, ◌*◌, ◌==◌, ℕ, max, nat_le, nat_lt, Bool, false, ◌&&◌, ◌||◌, if◌then◌else◌}
use Rattle.std.specs.Prelude.{List, length, Option, Some, None}
use Rattle.iol_types.specs.Command.{CommandValue}
use Rattle.iol_types.specs.State.{legal}
use Rattle.iol_layout.specs.Body.{slots_for}
use Rattle.iol_layout.specs.Layout.{renewed}
use Rattle.iol_layout.specs.Standings.{free_slots}
use Rattle.iol_layout.specs.Meaning.{Standing}
use Rattle.iol_layout.specs.declared.body.TheConstants.{MOST_COMMANDS, BODY_OCTETS, BODY_HEAD_OCTETS}
use Rattle.iol_layout.specs.declared.header.TheConstants.{LAST_NUMBER}
use Rattle.iol_journal.specs.declared.refusal.BeginCause.{BeginCause}
use Rattle.iol_journal.specs.declared.refusal.BeginCause.TheVariants.{TooLarge, NeedsCheckpoint, Memory, Misfit}

-- the commands, the first with this number, follow the journal: at least one, with the next numbers, in range, and
-- each passes (own)
abbrev pub follows : Standing → ℕ → List CommandValue → Bool
follows s first commands =
    nat_le 1 (length commands) && (first == s.number + 1) && nat_le (s.number + length commands) LAST_NUMBER && legal s.state commands

-- a batch does not fit an area of `slots` slots: it has more than 64 commands, or takes more slots (format, Slots)
abbrev pub is_too_large : ℕ → List CommandValue → Bool
is_too_large slots commands = nat_lt MOST_COMMANDS (length commands) || nat_lt slots (slots_for commands)

-- the number of record octets that fit the free slots, or one slot if none is free (format, Slots)
abbrev pub room_in : Standing → ℕ
room_in s = BODY_OCTETS * max 1 (free_slots s) - BODY_HEAD_OCTETS

-- commands do not fit an area of a journal in the newest layout (format, Slots)
abbrev pub fits_no_area : Standing → List CommandValue → Bool
fits_no_area s commands = is_too_large (renewed s.layout).slots commands

-- too few slots of a journal are free for commands (format, Slots)
abbrev pub wants_checkpoint : Standing → List CommandValue → Bool
wants_checkpoint s commands = nat_lt (free_slots s) (slots_for commands)

-- why a batch is refused, apart from memory; `None` if it is accepted (own)
abbrev pub batch_refusal : Standing → ℕ → List CommandValue → Option BeginCause
batch_refusal s first commands =
    if fits_no_area s commands then Some TooLarge
    else if wants_checkpoint s commands then Some NeedsCheckpoint
    else if follows s first commands then None
    else Some Misfit

-- why a batch is refused, memory included: out of memory comes after the checks of the batch's size and of the free
-- slots (own)
abbrev pub IsBatchRefusal : Standing → ℕ → List CommandValue → BeginCause → Type 0
IsBatchRefusal s first commands Memory = (fits_no_area s commands ≡ false) × (wants_checkpoint s commands ≡ false)
IsBatchRefusal s first commands cause = batch_refusal s first commands ≡ Some cause
