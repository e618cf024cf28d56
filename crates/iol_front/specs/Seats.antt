-- What is known at a seat of a front.
use Rattle.std.specs.Prelude.{◌-◌, Bool, true, false, List, [], length, take}
use Rattle.iol_types.specs.Command.{CommandValue}
use Rattle.iol_front.specs.Fronts.{Start}

-- what a seat knows, if it says anything: the start, the prefix of the list that it has seen, and a prefix that was
-- reported to it; and whether it is the publisher's, which has seen the whole list (own)
pub record SeatView : Type 0 where
  pub says : Bool
  pub publishes : Bool
  pub start : Start
  pub seen : List CommandValue
  pub told : List CommandValue

-- the seat of a pass that has seen these commands (own)
abbrev pub reader : Start → List CommandValue → SeatView
reader start seen = record { says = true; publishes = false; start = start; seen = seen; told = [] }

-- the seat of the publisher, which has seen the whole list (own)
abbrev pub publisher : Start → List CommandValue → SeatView
publisher start all = record { says = true; publishes = true; start = start; seen = all; told = [] }

-- a seat that says nothing: it was spent or retired (own)
abbrev pub silent : SeatView
silent = record { says = false; publishes = false; start = record { number = 0; state = [] }; seen = []; told = [] }

-- a seat made from another: it has seen the same commands, and does not publish (own)
abbrev pub another_of : SeatView → SeatView
another_of v = record { says = v.says; publishes = false; start = v.start; seen = v.seen; told = [] }

-- a seat to which another reports what it has seen (own)
abbrev pub told_by : SeatView → SeatView → SeatView
told_by v other = record { says = v.says; publishes = v.publishes; start = v.start; seen = v.seen; told = other.seen }

-- the commands of a list before its last ones (own)
abbrev pub before_last : List CommandValue → List CommandValue → List CommandValue
before_last all last = take (length all - length last) all
