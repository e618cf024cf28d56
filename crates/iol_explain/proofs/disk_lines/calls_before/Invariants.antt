use Rattle.std.proofs.Common.{◌≡◌, ◌-◌, length}
use Rattle.iol_explain.specs.DiskLines.{calls_before}
use Rattle.iol_explain.proofs.disk_lines.calls_before.Given as goal

-- counting on from the calls so far leads to the same number
abbrev pub invariant-loop-calls : goal.invariant-loop-calls
invariant-loop-calls l = calls_before l.events_before l.calls l.place ≡ calls_before l.events_before l.told l.place

abbrev pub decreases-loop-calls : goal.decreases-loop-calls
decreases-loop-calls l = length l.events_before - l.calls
