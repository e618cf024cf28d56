-- The rule of the one word of a front, and what each step reports to the seat that makes it.
use Rattle.std.specs.Prelude.{◌≡◌, ℕ, ◌+◌, ◌≤◌, true, List, [], ◌∷◌, ◌++◌, length}
use mathlib.Core.Option.{Option, some, none}
use mathlib.Core.List.{IsPrefix}
use lib.ListN.{get_elem?}
use Rattle.atomic_table.specs.Table as table
use Rattle.iol_types.specs.Command.{CommandValue}
use Rattle.iol_journal.specs.Body.{values}
use Rattle.iol_journal.specs.declared.batch.Batch.{Batch}
use Rattle.iol_journal.specs.Numbers.{LAST_NUMBER}
use Rattle.iol_front.specs.Fronts.{Start}
use Rattle.iol_front.specs.Seats.{SeatView, silent}

-- what a seat says is true: what it has seen and what was reported to it are prefixes of the whole list; the
-- publisher's seat has seen the whole list, and no other seat is the publisher's (own)
abbrev pub IsSo : Start → List CommandValue → ℕ → ℕ → SeatView → Type 0
IsSo start all publisher seat v =
    v.says ≡ true
    → (v.start ≡ start) × IsPrefix v.seen all × IsPrefix v.told all × (v.publishes ≡ true → (v.seen ≡ all) × (seat ≡ publisher))

-- the word counts the list: it is the start number plus the number of published commands, at most 2^62; and what each
-- seat says is true (own)
pub record CountsList {S : Type 0} (start : Start) (s : table.State S SeatView) : Type 0 where
  pub all : List CommandValue
  pub publisher : ℕ
  pub word : s.words ≡ (start.number + length all) ∷ []
  pub bound : start.number + length all ≤ LAST_NUMBER
  pub seats : (seat : ℕ) (v : SeatView) → get_elem? s.views seat ≡ some v → IsSo start all publisher seat v

-- a look: the seat has then seen a list that begins with what it had seen and with what was reported to it, and it has
-- found the start number plus the number of commands in that list (own)
pub record LooksAt (v : SeatView) (found : ℕ) (w : SeatView) : Type 0 where
  pub same : w ≡ record { says = v.says; publishes = v.publishes; start = v.start; seen = w.seen; told = [] }
  pub seen : IsPrefix v.seen w.seen
  pub told : IsPrefix v.told w.seen
  -- the publisher had seen the whole list
  pub whole : v.publishes ≡ true → w.seen ≡ v.seen
  pub count : found ≡ v.start.number + length w.seen
  pub bound : found ≤ LAST_NUMBER

-- a step that looks (own)
abbrev pub Looked : {S : Type 0} → table.Step S → table.Me S SeatView → ℕ → table.Me S SeatView → Type 0
Looked step m found m' = LooksAt m.0 found m'.0 × (m'.1 ≡ m.1)

-- the commands that are passed to a step, if any (own)
abbrev pub passed : Option Batch → List CommandValue
passed (some batch) = values batch.commands.items
passed none = []

-- the seat has seen these commands in addition, after those that it had seen (own)
abbrev pub Grows : SeatView → List CommandValue → SeatView → Type 0
Grows v commands w = w ≡ record { says = v.says; publishes = v.publishes; start = v.start; seen = v.seen ++ commands; told = v.told }

-- a step that publishes a batch (own)
abbrev pub Published : table.Step Batch → table.Me Batch SeatView → ℕ → table.Me Batch SeatView → Type 0
Published step m found m' = Grows m.0 (passed step.said) m'.0 × (m'.1 ≡ m.1)

-- a step that retires a seat (own)
abbrev pub Retired : {S : Type 0} → table.Step S → table.Me S SeatView → ℕ → table.Me S SeatView → Type 0
Retired step m found m' = (m'.0 ≡ silent) × (m'.1 ≡ m.1)
