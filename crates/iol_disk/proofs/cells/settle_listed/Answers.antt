use Rattle.std.proofs.Common.{◌<◌, ◌∙◌, length, get_or, slice_get, slice_set, refl, ap, sym, if◌then◌else◌, Bool, arith}
use Rattle.std.specs.Option.{option_map}
use Rattle.std.proofs.lemmas.List.{length-set}
use Rattle.std.proofs.lemmas.Option.{slice_get_read}
use Rattle.iol_disk.specs.Cells.{settled}
use Rattle.iol_disk.specs.declared.cell.Cell.{Cell}
use Rattle.iol_disk.proofs.Written.{listed_at, is_listed-take_more}
use Rattle.iol_disk.proofs.Settled.{settled_more}
use Rattle.iol_disk.proofs.cells.settle_listed.Goals as goal

pub index_mut-requires : goal.index_mut-requires
index_mut-requires c =
    omega (
      arith,
      c.requires _ (listed_at c.args.listed.now c.loop-sector.sector-index c.loop-sector-test.true),
      c.loop-sector.invariant.same_length,
      c.loop-sector.cells.ok,
    )

pub loop-sector-preserved : goal.loop-sector-preserved
loop-sector-preserved c =
    let n = get_or c.args.listed.now c.loop-sector.sector-index 0 in
    let old = c.args.cells.now.items in
    let cells = c.loop-sector.cells.items in
    let cell = c.index_mut.result.now in
    let within : n < length cells =
    omega (
      arith,
      c.requires n (listed_at c.args.listed.now c.loop-sector.sector-index c.loop-sector-test.true),
      c.loop-sector.invariant.same_length,
    ) in
    record {
      same_length = length-set _ _ _ ∙ c.loop-sector.invariant.same_length;
      so_far = λ i.
          ap (λ (new : Cell). slice_get (slice_set cells n new) i) c.settle.ensures
          ∙ settled_more old cells n cell i _ within (slice_get_read cells _ n cell refl within c.index_mut.ensures.value)
          (c.loop-sector.invariant.so_far i)
          ∙ ap (λ (listed : Bool). if listed then option_map settled (slice_get old i) else slice_get old i)
          (sym (is_listed-take_more c.args.listed.now c.loop-sector.sector-index i c.loop-sector-test.true));
    }
