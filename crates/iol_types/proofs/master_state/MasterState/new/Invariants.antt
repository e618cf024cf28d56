use Rattle.std.proofs.Common.{◌≡◌}
use Rattle.iol_types.specs.State.{empty_state}
use Rattle.iol_types.proofs.master_state.MasterState.new.Given as goal

-- the number of blank ports is the loop's counter
abbrev pub invariant-loop : goal.invariant-loop
invariant-loop l = l.blank.items ≡ empty_state l.counter
