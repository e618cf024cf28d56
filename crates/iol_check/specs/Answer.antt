-- The answer to a text.
use Rattle.std.specs.Prelude.{◌<◌, ℕ, List, string_bytes, string_len}
use Rattle.iol_commands.specs.Runs.{CanRun}
use Rattle.iol_check.specs.Fine.{TellsFine}
use Rattle.iol_check.specs.declared.answer.CheckAnswer.{CheckAnswer}
use Rattle.iol_check.specs.declared.answer.CheckAnswer.TheVariants.{Fine, Mistakes}

-- an answer to a text: its line and notes if it can be run, and lines of mistakes if it cannot (format, Check)
abbrev pub IsAnswer : List ℕ → CheckAnswer → Type 0
IsAnswer text (Fine printed) = CanRun text × TellsFine text (string_bytes printed)
IsAnswer text (Mistakes lines) = (CanRun text → ⊥) × (0 < string_len lines)
