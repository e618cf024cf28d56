use Rattle.std.proofs.Common.{◌≡◌, drop}
use Rattle.iol_types.specs.State.{after, legal}
use Rattle.iol_layout.specs.Body.{values}
use Rattle.iol_journal.proofs.batch.apply_all.Given as goal

abbrev pub invariant-loop-command : goal.invariant-loop-command
invariant-loop-command l = record {
  same_legal : legal l.fn.state (values l.commands) ≡ legal l.state (values (drop l.command-index l.commands));
  same_after : after l.fn.state (values l.commands) ≡ after l.state (values (drop l.command-index l.commands));
}
