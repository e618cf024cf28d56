use Rattle.std.proofs.Common.{rules, string_bytes}
use Rattle.iol_view.proofs.image.json_image.Goals as goal

pub returns-in-Err-clause-statuses : goal.returns-in-Err-clause-statuses
returns-in-Err-clause-statuses g c = search rules

pub returns-in-Ok-clause-printed : goal.returns-in-Ok-clause-printed
returns-in-Ok-clause-printed g c = λ done.
    (string_bytes c.in-Ok.text, c.in-Ok.ensures.text, rw c.as_bytes.ensures.value at c.print.ensures.written done)
