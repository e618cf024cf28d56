use Rattle.std.proofs.Common.{◌≡◌, ◌≤◌, ◌+◌, ◌*◌, length, Result, Ok, Err, IfOk, sym, ap, subst, arith}
use Rattle.std.proofs.lemmas.Result.{IfOk-weaker}
use Rattle.iol_journal.specs.Batches.{batch_calls}
use Rattle.iol_layout.specs.Body.{slots_for, values}
use Rattle.iol_journal.specs.Journals.{WritingView, calls_left}
use Rattle.iol_journal.specs.Underway.{IsUnderway}
use Rattle.iol_journal.proofs.BatchCalls.{all_calls, at_most}
use Rattle.iol_journal.proofs.Phases.{fit_of}
use Rattle.iol_journal.proofs.RunSteps.{run_of_begun}
use Rattle.iol_journal.proofs.journal.Journal.begin.Goals as goal

pub returns-in-Ok-clause-calls : goal.returns-in-Ok-clause-calls
returns-in-Ok-clause-calls g c =
    let commands = values c.args.batch.commands.items in
    IfOk-weaker c.begin_planned.result _ _ (λ w is.
    subst (λ (v : WritingView g.row.D.Denot). calls_left v ≡ batch_calls c.args.self.standing commands) (sym is)
    (all_calls c.args.self.standing commands)) c.begin_planned.ensures.begun

pub returns-in-Ok-clause-at_most : goal.returns-in-Ok-clause-at_most
returns-in-Ok-clause-at_most g c =
    let commands = values c.args.batch.commands.items in
    let fit = fit_of _ _ _ _ c.in-Ok.ensures.planned.0 in
    IfOk-weaker c.begin_planned.result _ _ (λ w is.
    subst (λ (v : WritingView g.row.D.Denot). length (calls_left v) ≤ 16 * slots_for commands + 3) (sym is)
    (at_most c.args.self.standing commands fit.short)) c.begin_planned.ensures.begun

pub returns-in-Ok-clause-few : goal.returns-in-Ok-clause-few
returns-in-Ok-clause-few g c =
    let commands = values c.args.batch.commands.items in
    let few = c.in-Ok.ensures.few in
    IfOk-weaker c.begin_planned.result _ _ (λ w is. omega (arith, is, few)) (returns-in-Ok-clause-at_most g c)

pub returns-in-Ok-clause-underway : goal.returns-in-Ok-clause-underway
returns-in-Ok-clause-underway g c rest =
    IfOk-weaker c.begin_planned.result _ _ (λ w is.
    subst (λ (v : WritingView g.row.D.Denot). IsUnderway g.D.SectorDisk.disk v) (sym is)
    (λ h. (rest h, λ j below. absurd (omega (arith, below))))) c.begin_planned.ensures.begun

-- two facts of the result
both : {A E : Type 0} (r : Result A E) (P Q R : A → Type 0) → ((x : A) → P x → Q x → R x) → IfOk r P → IfOk r Q → IfOk r R
both (Ok x) P Q R f p q = f x p q
both (Err e) P Q R f p q = tt

pub returns-in-Ok-clause-run : goal.returns-in-Ok-clause-run
returns-in-Ok-clause-run g c =
    both c.begin_planned.result _ _ _ (λ w is beside r behind queued resting.
    run_of_begun g.D.SectorDisk.disk c.args.self w (ap (λ (v : WritingView g.row.D.Denot). v.disk) is)
    (ap (λ (v : WritingView g.row.D.Denot). v.standing) is) (ap (λ (v : WritingView g.row.D.Denot). v.commands) is)
    (subst (λ (v : WritingView g.row.D.Denot). IsUnderway g.D.SectorDisk.disk v) (sym is)
    (λ h. (resting.0 h, λ j below. absurd (omega (arith, below))))) (beside resting.3) queued resting)
    c.begin_planned.ensures.begun c.begin_planned.ensures.beside
