-- How a history is made from given values.
use Rattle.std.specs.Prelude.{◌+◌, [], length}
use Rattle.iol_types.specs.State.{after}
use Rattle.iol_layout.specs.Body.{values}
use Rattle.iol_journal.specs.Planned.{written_after}
use Rattle.iol_journal.specs.declared.history.History.{History}
use Rattle.iol_journal.specs.declared.history.Source.{Source}
use Rattle.iol_journal.specs.declared.history.Source.TheVariants.{Begun, Continued, Ended, Alone}

-- an empty history that begins where the first leads to, followed by the commands of the second
-- (own)
abbrev pub ended_after : History → History → History
ended_after history batch =
    record { first = history.first + length batch.commands; start = after history.start batch.commands; commands = [] }

-- the history for each source: after recovery, with one more batch, as an empty one after a batch,
-- or with only the commands of a batch (own)
abbrev pub history_of : Source → History
history_of (Begun number state) = record { first = number; start = state.now; commands = [] }
history_of (Continued history batch) = written_after history.now (values batch.now.commands.items)
history_of (Ended history batch) = ended_after history.now batch.now
history_of (Alone batch) = record { first = 0; start = []; commands = values batch.now.commands.items }
