use Rattle.std.proofs.Common.{◌≡◌, ◌+◌, ℕ, length}
use Rattle.iol_layout.specs.Body.{commands_of}
use Rattle.iol_recovery.specs.Replay.{reached}
use Rattle.iol_recovery.specs.Wants.{CommandsWant}
use Rattle.iol_recovery.proofs.replay.replay.Given as goal

abbrev pub invariant-loop : goal.invariant-loop
invariant-loop l = record {
  ports : length l.state ≡ length l.fn.state;
  reached : (number left : ℕ) → left + l.counter ≡ l.count
      → reached (number + l.counter) l.state (commands_of l.fn.version left l.rest)
      ≡ reached number l.fn.state (commands_of l.fn.version l.count l.records);
  wants : (left : ℕ) → left + l.counter ≡ l.count → CommandsWant l.fn.version left l.state l.rest
      → CommandsWant l.fn.version l.count l.fn.state l.records;
}
