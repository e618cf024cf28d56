-- A written batch.
use Rattle.std.specs.Prelude.{ℕ, List}
use Rattle.iol_types.specs.Command.{CommandValue}

-- a written batch as contracts see it: the number of its first command, and its commands (own)
pub record WrittenView : Type 0 where
  pub first : ℕ
  pub commands : List CommandValue
