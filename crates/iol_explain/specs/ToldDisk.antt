-- A disk that reports its writes and syncs.
use Rattle.std.specs.Prelude.{◌≡◌, ◌⊎◌, Bool, false, List, [], ◌∷◌, ◌++◌}
use Rattle.iol_explain.specs.declared.told_disk.ToldCall.{ToldCall}
use Rattle.iol_explain.specs.declared.told_disk.ToldDisk.{ToldDisk}

-- the disk whose calls are reported (own)
abbrev pub told_on : {D : Type 0} → ToldDisk D → D
told_on disk = disk.disk

-- the calls that are reported so far (own)
abbrev pub calls_of : {D : Type 0} → ToldDisk D → List ToldCall
calls_of disk = disk.calls.items

-- each call that was made is reported (own)
abbrev pub is_whole : {D : Type 0} → ToldDisk D → Bool
is_whole disk = disk.is_whole

-- one more call is reported, after the others, or from then on some call is missing (own)
abbrev pub IsTold : {D : Type 0} → ToldCall → ToldDisk D → ToldDisk D → Type 0
IsTold call old new = ((calls_of new ≡ calls_of old ++ call ∷ []) × (is_whole new ≡ is_whole old)) ⊎ (is_whole new ≡ false)
