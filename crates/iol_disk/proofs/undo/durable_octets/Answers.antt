use Rattle.std.proofs.Common.{◌∙◌, ap, sym, List, Bool, Some, None, if◌then◌else◌, ◌<◌, length, get_or, rules}
use Rattle.std.proofs.lemmas.Option.{slice_get-get_or}
use Rattle.iol_disk.specs.Cells.{durable_in, durable_of}
use Rattle.iol_disk.specs.Undo.{replaced_at}
use Rattle.iol_disk.specs.declared.undo.Replaced.{Replaced}
use Rattle.iol_disk.proofs.Syncs.{replaced_more}
use Rattle.iol_disk.proofs.Written.{listed_at, is_listed-take_more}
use Rattle.iol_disk.proofs.undo.durable_octets.Goals as goal

pub bounds-cells-sector : goal.bounds-cells-sector
bounds-cells-sector c = c.requires _ (listed_at c.args.listed.now c.loop-sector.sector-index c.loop-sector-test.true)

pub offset_bounds-cells-sector : goal.offset_bounds-cells-sector
offset_bounds-cells-sector c =
    let within = c.requires _ (listed_at c.args.listed.now c.loop-sector.sector-index c.loop-sector-test.true) in
    search rules

pub loop-sector-preserved : goal.loop-sector-preserved
loop-sector-preserved c = λ i.
    let sector = get_or c.args.listed.now c.loop-sector.sector-index 0 in
    let cells = c.args.cells.now in
    let within : sector < length cells =
    c.requires sector (listed_at c.args.listed.now c.loop-sector.sector-index c.loop-sector-test.true) in
    ap (λ (sync : List Replaced). replaced_at sync i) c.in_ok-push.ensures.items
    ∙ replaced_more cells c.loop-sector.sync.items _ i _ (ap durable_in (slice_get-get_or cells sector _ within))
    (c.loop-sector.invariant i)
    ∙ ap (λ (listed : Bool). if listed then Some (durable_of cells i) else None)
    (sym (is_listed-take_more c.args.listed.now c.loop-sector.sector-index i c.loop-sector-test.true))
