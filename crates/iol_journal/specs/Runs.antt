-- A run of a journal: the commands that it accepts, the batches that write them, the checkpoints between, and what was
-- acknowledged when.
use Rattle.std.specs.Prelude.{◌≡◌, ◌≤◌, ℕ, ◌+◌, true, IsTrue, List, [], ◌∷◌, ◌++◌, length, take, All}
use Rattle.iol_types.specs.Command.{CommandValue}
use Rattle.iol_types.specs.State.{State, after, legal}
use Rattle.iol_disk.specs.Content.{Image, IsImageSince, clock}
use Rattle.iol_disk.specs.Disk.{Disk}
use Rattle.iol_layout.specs.Kept.{KeptMeans}

-- a moment of a run: the clock of the disk, and the number up to which commands were acknowledged by then (own)
pub record Mark : Type 0 where
  pub clock : ℕ
  pub acknowledged : ℕ

-- a run: the number and the state that it began with; the commands that it has accepted, in order: the written ones, those of
-- the batch underway, and those queued after it; and its moments (own)
pub record Run : Type 0 where
  pub first : ℕ
  pub start : State
  pub written : List CommandValue
  pub underway : List CommandValue
  pub queued : List CommandValue
  pub marks : List Mark

-- all commands that a run has accepted, in order (own)
abbrev pub accepted : Run → List CommandValue
accepted r = r.written ++ (r.underway ++ r.queued)

-- the number and the state after the commands that a run has written (own)
abbrev pub number_of : Run → ℕ
number_of r = r.first + length r.written

abbrev pub state_of : Run → State
state_of r = after r.start r.written

-- an image is kept, and means the start number and state after a prefix of these commands that includes all commands up to
-- the number `least` (own)
pub record HasPrefix (sectors first : ℕ) (start : State) (commands : List CommandValue) (least : ℕ) (image : Image) : Type 0 where
  pub count : ℕ
  pub within : count ≤ length commands
  pub reaches : least ≤ first + count
  pub means : KeptMeans sectors (first + count) (after start (take count commands)) image

-- every image of an honest disk since a moment of a run has all commands acknowledged by then, and after them only the next
-- accepted commands, in order (own)
pub record IsMarked (d : Disk) (r : Run) (mark : Mark) : Type 0 where
  pub written : mark.acknowledged ≤ number_of r
  pub passed : IsTrue d.honest → mark.clock ≤ clock d.content
  pub each : IsTrue d.honest → (image : Image) → IsImageSince mark.clock d.content image
      → HasPrefix d.sectors r.first r.start (accepted r) mark.acknowledged image

-- a run on a disk: each command passes in the state that it meets, and since each moment a power stop leaves all commands
-- acknowledged by then (own)
pub record IsRun (d : Disk) (r : Run) : Type 0 where
  pub passes : legal r.start (accepted r) ≡ true
  pub marks : All (IsMarked d r) r.marks

-- a run that begins with this number and state, and a moment at this clock (own)
abbrev pub begun : ℕ → ℕ → State → Run
begun clock number state = record {
  first = number;
  start = state;
  written = [];
  underway = [];
  queued = [];
  marks = record { clock = clock; acknowledged = number } ∷ [];
}

-- a run with one more moment (own)
abbrev pub with_mark : Run → Mark → Run
with_mark r mark = record r { marks = mark ∷ r.marks }

-- a run that has accepted more commands (own)
abbrev pub with_commands : Run → List CommandValue → Run
with_commands r commands = record r { queued = r.queued ++ commands }

-- a run of whose queued commands the first become the batch underway, and the others stay queued (own)
abbrev pub with_batch_begun : Run → List CommandValue → List CommandValue → Run
with_batch_begun r batch later = record r { underway = batch; queued = later }

-- a run whose batch is written (own)
abbrev pub with_batch_written : Run → Run
with_batch_written r = record r { written = r.written ++ r.underway; underway = [] }
