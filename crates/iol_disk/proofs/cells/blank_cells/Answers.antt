use Rattle.std.proofs.Common.{List, [], ◌∷◌, ◌++◌, ◌∙◌, ap}
use Rattle.std.proofs.lemmas.List.{replicate_more}
use Rattle.iol_disk.specs.declared.cell.Cell.{Cell}
use Rattle.iol_disk.specs.Cells.{blank_cell}
use Rattle.iol_disk.proofs.cells.blank_cells.Goals as goal

pub loop-preserved : goal.loop-preserved
loop-preserved c =
    c.in_ok-push.ensures.items ∙ ap (λ (cells : List Cell). cells ++ blank_cell ∷ []) c.loop.invariant
    ∙ replicate_more c.loop.counter blank_cell
