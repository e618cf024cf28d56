-- What holds of an honest disk before each disk call of a batch.
use Rattle.std.specs.Prelude.{◌≡◌, ◌<◌, ℕ, true, false, IsTrue, List}
use Rattle.iol_types.specs.Command.{CommandValue}
use Rattle.iol_disk.specs.Content.{Image, Content, EachImage, IsSettled, reads}
use Rattle.iol_disk.specs.Disk.{Disk}
use Rattle.iol_disk.specs.Gate.{is_open}
use Rattle.iol_layout.specs.Layout.{slot_at, body_at}
use Rattle.iol_layout.specs.Meaning.{Standing}
use Rattle.iol_layout.specs.Kept.{IsKeptAs}
use Rattle.iol_layout.specs.Octets.{sector_of}
use Rattle.iol_layout.specs.Standings.{with_batch}
use Rattle.iol_layout.specs.declared.idle.Idle.{Idle}
use Rattle.iol_journal.specs.declared.phase.Phase.{Phase}
use Rattle.iol_journal.specs.declared.phase.Phase.TheVariants.{Body, SyncBody, Gate, SyncGate}

-- a journal is at rest: each image that a power stop of an honest disk may leave is kept with this standing (own)
abbrev pub IsAtRest : Disk → Standing → Idle → Type 0
IsAtRest d s idle = IsTrue d.honest → EachImage d.content (IsKeptAs d.sectors s idle)

-- the first `n` sectors of the body are written, from the first free slot on (own)
abbrev pub HasWritten : Standing → List ℕ → ℕ → Content → Type 0
HasWritten s body n c = (j : ℕ) → j < n → reads c (body_at s.layout s.area s.used j) ≡ sector_of body j

-- an image while the gate of a slot is being written: with the gate open the batch counts, with the gate closed it
-- does not (own)
abbrev pub IsBetween : ℕ → Standing → Idle → List CommandValue → Image → Type 0
IsBetween sectors s idle commands image =
    (is_open (image (slot_at s.layout s.area s.used)) ≡ false → IsKeptAs sectors s idle image)
    × (is_open (image (slot_at s.layout s.area s.used)) ≡ true → IsKeptAs sectors (with_batch s commands) idle image)

-- what holds of the content before the disk call of each phase (own)
abbrev pub Holds : ℕ → Standing → Idle → List CommandValue → List ℕ → ℕ → Phase → Content → Type 0
Holds size s idle commands body sectors (Body j) c = EachImage c (IsKeptAs size s idle) × HasWritten s body j c
Holds size s idle commands body sectors SyncBody c = EachImage c (IsKeptAs size s idle) × HasWritten s body sectors c
Holds size s idle commands body sectors Gate c = EachImage c (IsKeptAs size s idle) × HasWritten s body sectors c × IsSettled c
Holds size s idle commands body sectors SyncGate c =
    EachImage c (IsBetween size s idle commands) × IsKeptAs size (with_batch s commands) idle (reads c)
