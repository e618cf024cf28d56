use Rattle.std.proofs.Common.{rules}
use Rattle.iol_script.proofs.StopLemmas.{before_stop-last, before_stop-none, before_stop-empty}
use Rattle.iol_script.proofs.steps.before_stop.Goals as goal
use Rattle.iol_script.proofs.steps.before_stop.Goals.{in-Some+in_default-read_stop, in_default}

pub returns-in-Some-read_stop : goal.returns-in-Some-read_stop
returns-in-Some-read_stop c = search (rules, before_stop-last)

pub returns : goal.returns
returns c =
    elim c.match-split_last.branch [
      | in-Some+in_default-read_stop w ↦ search (rules, before_stop-none)
      | in_default w ↦ search (rules, before_stop-empty)
    ]
