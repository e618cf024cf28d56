-- Which front is meant, and a batch in its list.
use Rattle.std.specs.Prelude.{ℕ, List, []}
use Rattle.atomic_table.specs.Seated.{TableId}
use Rattle.iol_types.specs.Command.{CommandValue}
use Rattle.iol_types.specs.State.{State}

-- the number and the state that a front starts with (own)
pub record Start : Type 0 where
  pub number : ℕ
  pub state : State

-- which front is meant: the table that has its word, and its start (own)
pub record FrontId : Type 0 where
  pub table : TableId
  pub start : Start

-- the front that a program names before it has one (own)
abbrev pub no_front : FrontId
no_front = record {
  table = record { words = 0; slots = 0; views_name = 0; atom = 0; block = 0; offset = 0; slot_names = [] };
  start = record { number = 0; state = [] };
}

-- a batch in the list of a front as contracts see it: the commands before it, and its own (own)
pub record CommittedView : Type 0 where
  pub before : List CommandValue
  pub commands : List CommandValue
