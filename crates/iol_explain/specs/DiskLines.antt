-- The lines of disk calls.
use Rattle.std.specs.Prelude.{ℕ, ◌+◌, ◌&&◌, not, nat_le, Bool, if◌then◌else◌, List, [], ◌++◌, length, drop, slice_range, codes}
use Rattle.std.specs.Fmt.{decimal}
use Rattle.std.specs.List.{flat_map, prefix_len}
use Rattle.iol_journal.specs.Geometry.{Geometry}
use Rattle.iol_journal.specs.Layout.{layout_of}
use Rattle.iol_explain.specs.Places.{is_gate, place_at, place_text}
use Rattle.iol_explain.specs.declared.place.SectorUse.{SectorUse}
use Rattle.iol_explain.specs.declared.told_disk.ToldCall.{ToldCall}
use Rattle.iol_explain.specs.declared.told_disk.ToldCall.TheVariants.{Write, Sync}

-- the calls after those of the recovery, which makes one sync besides its reads (format, Recovery)
abbrev pub of_run : List ToldCall → List ToldCall
of_run calls = drop 1 calls

-- the calls from one index up to before another; none if these indexes are not in order or not within the calls (own)
abbrev pub between : List ToldCall → ℕ → ℕ → List ToldCall
between calls from to = if nat_le from to && nat_le to (length calls) then slice_range calls from to else []

-- the number of calls before the event at a place: the `told` ones, and the next ones before whose step no more events came than come
-- before this one (own)
abbrev pub calls_before : List ℕ → ℕ → ℕ → ℕ
calls_before events_before told place = told + prefix_len (λ events. nat_le events place) (drop told events_before)

-- whether a gate is written open or closed, in words; no words if the sector is no gate (format, Explained runs)
abbrev pub standing : SectorUse → Bool → List ℕ
standing place is_gate_open = if not (is_gate place) then [] else if is_gate_open then codes ", open" else codes ", closed"

-- the line of a disk call (format, Explained runs)
abbrev pub call_line : Geometry → ToldCall → List ℕ
call_line geometry Sync = codes "disk sync\n"
call_line geometry (Write sector is_gate_open) =
    codes "disk write sector " ++ (decimal sector ++ (codes ", " ++ (place_text (place_at (layout_of geometry) sector)
    ++ (standing (place_at (layout_of geometry) sector) is_gate_open ++ codes "\n"))))

-- the lines of disk calls (format, Explained runs)
abbrev pub call_lines : Geometry → List ToldCall → List ℕ
call_lines geometry calls = flat_map (λ call. call_line geometry call) calls
