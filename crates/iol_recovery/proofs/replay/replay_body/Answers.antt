use Rattle.std.proofs.Common.{◌≡◌, ◌+◌, ◌-◌, true, ap, ◌∙◌, sym, arith}
use Rattle.iol_recovery.specs.Replay.{reached}
use Rattle.iol_layout.specs.declared.body.TheConstants.{BODY_HEAD_OCTETS}
use Rattle.iol_layout.proofs.ReachedBodies.{batch_of-misfit, batch_of-fits}
use Rattle.iol_recovery.proofs.replay.replay_body.Goals.{else-end-body-via-then-end-body+in_ok-replay+else-branch}
use Rattle.iol_recovery.proofs.replay.replay_body.Goals.{else-end-body-via-else-end-body}
use Rattle.iol_recovery.proofs.replay.replay_body.Goals as goal

pub returns-then-not-fits-clause-reached : goal.returns-then-not-fits-clause-reached
returns-then-not-fits-clause-reached c = λ holds.
    ap (reached c.args.number c.args.state.now)
    (batch_of-misfit c.args.version c.args.epoch (c.args.number + 1) c.args.body.now c.read-head.result c.read-head.ensures
    (sym c.fits.ensures
    ∙ c.if-not-fits.true))

pub returns-then-branch-clause-reached : goal.returns-then-branch-clause-reached
returns-then-branch-clause-reached c = λ holds.
    let records : BODY_HEAD_OCTETS + c.read-head.result.octets - BODY_HEAD_OCTETS ≡ c.read-head.result.octets = omega arith in
    let applied = rw c.if-branch.true at c.in_ok-replay.ensures.reached c.args.number in
    rw c.from.ensures
    (ap (reached c.args.number c.args.state.now)
    (batch_of-fits c.args.version c.args.epoch (c.args.number + 1) c.args.body.now c.read-head.result c.read-head.ensures
    (sym c.fits.ensures
    ∙ c.if-not-fits.false))
    ∙ rw records at applied)

pub returns-else-end-body-clause-reached : goal.returns-else-end-body-clause-reached
returns-else-end-body-clause-reached c = λ holds.
    let fit : c.fits.result ≡ true = c.if-not-fits.false in
    let records : BODY_HEAD_OCTETS + c.read-head.result.octets - BODY_HEAD_OCTETS ≡ c.read-head.result.octets = omega arith in
    elim c.else-end-body.branch [
      | else-end-body-via-then-end-body+in_ok-replay+else-branch w ↦
          let refused = rw w.if-branch.false at w.in_ok-replay.ensures.reached c.args.number in
          ap (reached c.args.number c.args.state.now)
          (batch_of-fits c.args.version c.args.epoch (c.args.number + 1) c.args.body.now c.read-head.result c.read-head.ensures
          (sym c.fits.ensures ∙ fit))
          ∙ rw records at refused
      | else-end-body-via-else-end-body w ↦
          let within = rw (← c.read-head.ensures) at holds in
          absurd (omega (arith, within, w.if-end-body.false))
    ]
