use Rattle.std.proofs.Common.{◌≡◌, ◌+◌, ◌-◌, None, is_none, false, arith, rules, refl, sym, ◌∙◌, ap, subst, length, ℕ, add-zero}
use Rattle.std.proofs.lemmas.Grind.{common_steps}
use Rattle.std.proofs.lemmas.List.{take_rest}
use Rattle.std.proofs.lemmas.Result.{err_from_is_err_and}
use Rattle.iol_types.specs.Command.{value_of}
use Rattle.iol_types.specs.State.{State, check}
use Rattle.iol_types.proofs.StateLemmas.{length-apply}
use Rattle.iol_layout.specs.Body.{commands_of}
use Rattle.iol_recovery.specs.Replay.{reached}
use Rattle.iol_recovery.specs.Wants.{CommandsWant}
use Rattle.iol_recovery.proofs.Replays.{replay-unread, replay-refused, replay-passed, replay-ended, wants-behind, wants-first}
use Rattle.iol_recovery.proofs.replay.replay.Goals as goal

pub returns-in_default-clause-reached : goal.returns-in_default-clause-reached
returns-in_default-clause-reached c = λ number.
    let left = c.args.count - (c.loop.counter + 1) in
    let unread = rw c.in_default.is at c.in_ok-command.ensures.none in
    sym (c.loop.invariant.reached number (left + 1) (omega arith)) ∙ replay-unread _ _ left _ _ unread.0 unread.1

pub returns-then-is_err-clause-reached : goal.returns-then-is_err-clause-reached
returns-then-is_err-clause-reached c = λ number.
    let left = c.args.count - (c.loop.counter + 1) in
    let found = rw c.in-Some.is at c.in_ok-command.ensures.found in
    let refused : is_none (check c.loop.state (value_of c.in-Some.command)) ≡ false = grind (arith, common_steps) in
    sym (c.loop.invariant.reached number (left + 1) (omega arith)) ∙ replay-refused _ _ left _ _ _ _ found.1 refused

pub loop-init : goal.loop-init
loop-init c = record {
  ports = refl;
  reached = λ number left is.
      let all : left ≡ c.args.count = omega (arith, is) in
      rw add-zero (ap (λ (n : ℕ). reached number c.args.state.now (commands_of c.args.version n c.args.records.now)) all);
  wants = λ left is more.
      let all : left ≡ c.args.count = omega (arith, is) in
      subst (λ (n : ℕ). CommandsWant c.args.version n c.args.state.now c.args.records.now) all more;
}

pub loop-preserved : goal.loop-preserved
loop-preserved c = record {
  ports = ap (λ (state : State). length state) c.apply.ensures ∙ length-apply c.loop.state (value_of c.in-Some.command)
      ∙ c.loop.invariant.ports;
  reached = λ number left is.
      let found = rw c.in-Some.is at c.in_ok-command.ensures.found in
      let passed : check c.loop.state (value_of c.in-Some.command) ≡ None = search rules in
      rw (take_rest, c.apply.ensures)
      (replay-passed _ number c.loop.counter left _ _ _ _ _ found.1 passed (c.loop.invariant.reached number (left + 1) (omega arith)));
  wants = λ left is more.
      let found = rw c.in-Some.is at c.in_ok-command.ensures.found in
      let passed : check c.loop.state (value_of c.in-Some.command) ≡ None = search rules in
      c.loop.invariant.wants (left + 1) (omega arith)
      (wants-behind _ left _ _ _ _ found.1 passed (rw (take_rest, c.apply.ensures) at more));
}

pub returns-clause-reached : goal.returns-clause-reached
returns-clause-reached c = λ number.
    let done : c.loop.counter ≡ c.args.count = omega arith in
    sym (c.loop.invariant.reached number 0 (omega arith))
    ∙ rw (← done) (replay-ended c.args.version (number + c.loop.counter) 0 _ _ c.is_empty.result refl c.is_empty.ensures)

pub returns-in_err-command-clause-memory : goal.returns-in_err-command-clause-memory
returns-in_err-command-clause-memory c =
    let left = c.args.count - (c.loop.counter + 1) in
    let p = err_from_is_err_and c.from_residual.result c.from_residual.ensures.1 in
    rw p.1
    (c.loop.invariant.wants (left + 1) (omega arith) (wants-first c.args.version left c.loop.state c.loop.rest.now
    c.in_err-command.ensures.memory))
