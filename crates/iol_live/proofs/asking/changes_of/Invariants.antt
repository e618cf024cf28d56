use Rattle.std.proofs.Common.{◌≡◌, take}
use Rattle.iol_live.specs.Asked.{changes_of}
use Rattle.iol_live.proofs.asking.changes_of.Given as goal

-- the changes of the port so far
abbrev pub invariant-loop-change : goal.invariant-loop-change
invariant-loop-change l = l.asked.items ≡ changes_of l.number (take l.change-index l.changes)
