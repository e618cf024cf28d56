-- What a disk in memory keeps of its syncs: the durable octets that each replaced.
use Rattle.std.specs.Prelude.{Vec, map, ◌==◌, ℕ, if◌then◌else◌, List, [], ◌∷◌, Option, Some, None, unwrap_or, is_some}
use Rattle.std.specs.declared.alloc.Global.{Global}
use Rattle.iol_disk.specs.Content.{Image, Interval, Content}
use Rattle.iol_disk.specs.Cells.{durable_of, written_of}
use Rattle.iol_disk.specs.declared.cell.Cell.{Cell}
use Rattle.iol_disk.specs.declared.undo.Replaced.{Replaced}

-- the durable octets that a sync replaced in a sector, if it replaced any (own)
abbrev pub replaced_at : List Replaced → ℕ → Option (List ℕ)
replaced_at [] i = None
replaced_at (r ∷ rs) i = if i == r.sector then Some r.octets else replaced_at rs i

-- what a sync is about to replace: the durable octets of the sectors written since the last one (own)
abbrev pub replaces : List Cell → ℕ → Option (List ℕ)
replaces cells i = if is_some (written_of cells i) then Some (durable_of cells i) else None

-- the durable content before a sync, computed from that after it (own)
abbrev pub undo : List Replaced → Image → Image
undo sync after i = unwrap_or (replaced_at sync i) (after i)

-- the durable content before several syncs, computed from that after them (own)
abbrev pub undo_all : List (List Replaced) → Image → Image
undo_all [] after = after
undo_all (sync ∷ syncs) after = undo sync (undo_all syncs after)

-- the past intervals between syncs, reconstructed from what each sync replaced (own)
abbrev pub intervals : List (List Replaced) → Image → List Interval
intervals [] after = []
intervals (sync ∷ syncs) after =
    record { durable = undo_all (sync ∷ syncs) after; pending = λ i. is_some (replaced_at sync i) } ∷ intervals syncs after

-- what each sync replaced, the first sync first (own)
abbrev pub undos : List (Vec Replaced Global) → List (List Replaced)
undos syncs = map (λ (sync : Vec Replaced Global). sync.items) syncs

-- what is durable, what was written since, and the past intervals between syncs, reconstructed from what the syncs
-- replaced (own)
abbrev pub content_of : List Cell → List (List Replaced) → Content
content_of cells past = record { durable = durable_of cells; written = written_of cells; past = intervals past (durable_of cells) }
