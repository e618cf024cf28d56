-- A disk that records its calls.
use Rattle.std.specs.Prelude.{◌≡◌, ◌⊎◌, List, [], ◌∷◌, ◌++◌}
use Rattle.iol_disk.specs.declared.recorded_disk.DiskCall.{DiskCall}
use Rattle.iol_disk.specs.declared.recorded_disk.RecordedDisk.{RecordedDisk}

-- the disk whose calls are recorded (own)
abbrev pub recorded_on : {D : Type 0} → RecordedDisk D → D
recorded_on recorded = recorded.disk

-- the calls recorded so far (own)
abbrev pub calls_of : {D : Type 0} → RecordedDisk D → List DiskCall
calls_of recorded = recorded.calls.items

-- the recorded calls after one more: with this call at the end, or unchanged if out of memory (own)
abbrev pub IsRecorded : DiskCall → List DiskCall → List DiskCall → Type 0
IsRecorded call old new = (new ≡ old ++ call ∷ []) ⊎ (new ≡ old)
