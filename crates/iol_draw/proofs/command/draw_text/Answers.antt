use Rattle.std.proofs.Common.{string_bytes, inl, refl}
use Rattle.iol_draw.proofs.command.draw_text.Goals as goal

pub returns-in-Ok-clause-printed : goal.returns-in-Ok-clause-printed
returns-in-Ok-clause-printed g c = λ done.
    (string_bytes c.in-Ok.line, c.in-Ok.ensures.printed, rw c.as_bytes.ensures.value at c.print.ensures.written done)

-- the fault for which no run was drawn
pub returns-in-Err-clause-silent : goal.returns-in-Err-clause-silent
returns-in-Err-clause-silent g c = λ _. inl (c.in-Err.fault, c.in-Err.ensures.cause, c.report.ensures.status, refl)
