-- The text that is printed for a picture of a run.
use Rattle.std.specs.Prelude.{◌≡◌, ℕ, List, ◌++◌, codes, length, IsSomeAnd}
use Rattle.std.specs.Fmt.{decimal}
use Rattle.iol_script.specs.Script.{said_in}
use Rattle.iol_explain.specs.Played.{IsExplained}
use Rattle.iol_explain.specs.declared.explained.Explained.{Explained}

-- the text that is printed for a picture: the number of events of its run (format, Pictures of runs)
abbrev pub drawn_text : ℕ → List ℕ
drawn_text events = codes "drawn " ++ (decimal events ++ codes " events\n")

-- a text has the number of events of a script's run, which was made (format, Pictures of runs)
pub record TellsDrawn (script text : List ℕ) : Type 0 where
  pub explained : Explained
  pub played : IsSomeAnd (said_in script) (λ said. IsExplained said explained)
  pub text_is : text ≡ drawn_text (length explained.events.items)
