use Rattle.std.proofs.Common.{string_bytes}
use Rattle.iol_view.proofs.map_commands.map_image.Goals as goal

pub returns-in-Ok-clause-printed : goal.returns-in-Ok-clause-printed
returns-in-Ok-clause-printed g c = λ done.
    (string_bytes c.in-Ok.map, c.in-Ok.ensures.text, rw c.as_bytes.ensures.value at c.print.ensures.written done)
