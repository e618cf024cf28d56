use Rattle.std.proofs.Common.{arith, ◌≡◌, ◌+◌, ◌∙◌, ℕ, List, [], ◌∷◌, length, Ok, Err, refl, sym, ap, subst}
use Rattle.std.proofs.lemmas.List.{length-map}
use Rattle.iol_types.specs.Command.{value_of}
use Rattle.std.specs.Option.{option_map}
use Rattle.iol_disk.specs.Calls.{Call, Made, MakesFirst}
use Rattle.iol_journal.specs.Batches.{body_for, sectors_for, call_of, calls_from}
use Rattle.iol_journal.specs.BegunParts.{IsSetAside}
use Rattle.iol_journal.specs.Pauses.{IsBeside}
use Rattle.iol_journal.specs.Drafts.{with_owed}
use Rattle.iol_layout.specs.Meaning.{Standing}
use Rattle.iol_journal.specs.Phases.{IsAtRest}
use Rattle.iol_journal.specs.Underway.{IsUnderway}
use Rattle.iol_journal.specs.Journals.{WritingView, calls_left}
use Rattle.iol_layout.specs.Standings.{IsResting, with_batch}
use Rattle.iol_journal.specs.Parts.{stands}
use Rattle.iol_layout.specs.Body.{values}
use Rattle.iol_journal.specs.Planned.{written_after}
use Rattle.iol_layout.proofs.Bodies.{length-body}
use Rattle.iol_journal.proofs.BegunLaws.{set_aside_on, set_aside_owing, views-owing}
use Rattle.iol_journal.proofs.BesideLaws.{beside_after, paused_after}
use Rattle.iol_journal.proofs.Phases.{fit_of, rest_means, standing_written}
use Rattle.iol_journal.proofs.RunSteps.{run_of_call, run_of_written}
use Rattle.iol_journal.proofs.Steps.{moment_of, underway, durable, makes_first, makes_last, fails_first, planned_next, resting_after}
use Rattle.iol_journal.proofs.writing.Writing.step.Given
use Rattle.iol_journal.proofs.writing.Writing.step.Goals as goal

pub returns-in-Err-clause-call : goal.returns-in-Err-clause-call
returns-in-Err-clause-call g c =
    let d = g.D.SectorDisk.disk in
    let w = c.self.inside in
    let plan = c.self.invariant.1 in
    subst (λ (v : WritingView g.row.D.Denot).
    (others : List Call) × MakesFirst (calls_left v) others (d v.disk) (d c.make.new.disk) (Err c.in-Err.fault)) c.self.view_is
    (fails_first _ w.parts.place.idle _ _ _ _ _ _ c.self.invariant.0 plan.body.octets plan.body.sectors c.in-Err.fault
    (c.in-Err.ensures.makes w.parts.number w.parts.state))

pub returns-in-Err-clause-any_moment : goal.returns-in-Err-clause-any_moment
returns-in-Err-clause-any_moment g c =
    let w = c.self.inside in
    moment_of g.D.SectorDisk.disk c.make.new.disk c.make.result c.self.view_is c.self.invariant.0 c.self.invariant.1
    (c.make.ensures.makes w.parts.number w.parts.state)

pub returns-in-Some-clause-call : goal.returns-in-Some-clause-call
returns-in-Some-clause-call g c =
    let d = g.D.SectorDisk.disk in
    let w = c.self.inside in
    let plan = c.self.invariant.1 in
    let s = stands w.parts in
    let commands = values w.batch.commands.items in
    let behind = calls_from s (body_for s commands) (sectors_for s commands) c.in-Some.phase in
    subst (λ (v : WritingView g.row.D.Denot). MakesFirst (calls_left v) behind (d v.disk) (d c.make.new.disk) (Ok tt)) c.self.view_is
    (makes_first _ w.parts.place.idle _ _ _ _ _ _ c.self.invariant.0 plan.body.octets plan.body.sectors c.in-Some.phase
    (sym c.in-Some.is ∙ c.next.ensures)
    (c.in_default.ensures.makes w.parts.number w.parts.state))

pub returns-in-Some-clause-any_moment : goal.returns-in-Some-clause-any_moment
returns-in-Some-clause-any_moment g c =
    let w = c.self.inside in
    moment_of g.D.SectorDisk.disk c.make.new.disk c.make.result c.self.view_is c.self.invariant.0 c.self.invariant.1
    (c.make.ensures.makes w.parts.number w.parts.state)

pub returns-in-Some-clause-underway : goal.returns-in-Some-clause-underway
returns-in-Some-clause-underway g c u =
    let d = g.D.SectorDisk.disk in
    let w = c.self.inside in
    let plan = c.self.invariant.1 in
    let under = subst (λ (v : WritingView g.row.D.Denot). IsUnderway d v) (sym c.self.view_is) u in
    underway _ w.parts.place.idle _ _ _ _ _ _ c.self.invariant.0 plan.body.octets plan.body.sectors c.in-Some.phase
    (sym c.in-Some.is ∙ c.next.ensures)
    (c.in_default.ensures.makes w.parts.number w.parts.state) under

pub make-requires-clause-whole : goal.make-requires-clause-whole
make-requires-clause-whole g c =
    let fit = fit_of _ _ _ _ c.self.invariant.0 in
    let body = c.self.invariant.1.body in
    omega (arith, ap (λ (os : List ℕ). length os) body.octets, fit.whole, body.sectors)

pub make-requires-clause-short : goal.make-requires-clause-short
make-requires-clause-short g c =
    let fit = fit_of _ _ _ _ c.self.invariant.0 in
    let body = c.self.invariant.1.body in
    omega (arith, fit.short, body.sectors, body.span)

pub next-requires-clause-short : goal.next-requires-clause-short
next-requires-clause-short g c =
    let w = c.self.inside in
    let size = length-body w.parts.place.epoch (w.parts.number + 1) (values w.batch.commands.items) in
    omega (arith, size, c.self.invariant.0.follows.batch.short, c.self.invariant.1.body.sectors)

pub invariant_of-result : goal.invariant_of-result
invariant_of-result g c =
    let d = g.D.SectorDisk.disk in
    let w = c.self.inside in
    let plan = c.self.invariant.1 in
    let made = c.in_default.ensures.makes w.parts.number w.parts.state in (
      planned_next _ w.parts.place.idle _ _ _ _ _ _ c.self.invariant.0 plan.body.octets plan.body.sectors c.in-Some.phase
          (sym c.in-Some.is ∙ c.next.ensures) made,
      plan,
      c.self.invariant.2,
      c.self.invariant.3,
      set_aside_on (d w.disk) (d c.make.new.disk) (stands w.parts) w.parts.place.idle w.begun made.after.sectors
          c.self.invariant.4,
      c.self.invariant.5,
    )

pub owing-begun-requires-clause-octets : goal.owing-begun-requires-clause-octets
owing-begun-requires-clause-octets g c =
    let fit = fit_of _ _ _ _ c.self.invariant.0 in
    omega (arith, ap (λ (os : List ℕ). length os) c.self.invariant.1.body.octets, fit.whole, fit.least)

pub at_rest-requires-clause-resting : goal.at_rest-requires-clause-resting
at_rest-requires-clause-resting g c =
    let w = c.self.inside in
    let s = stands w.parts in
    let commands = values w.batch.commands.items in
    let behind = standing_written w.parts.place w.parts.number (w.parts.number + c.len.result) w.plan.body.span w.parts.state
    w.plan.next commands
    c.self.invariant.1.body.span
    (omega (arith, c.len.ensures, length-map w.batch.commands.items value_of)) c.self.invariant.1.next in
    subst (IsResting (g.D.SectorDisk.disk c.make.new.disk)) (sym behind)
    (resting_after _ _ s commands w.phase c.self.invariant.0 (c.in_default.ensures.makes w.parts.number w.parts.state).after.sectors)

pub returns-in-None-clause-call : goal.returns-in-None-clause-call
returns-in-None-clause-call g c =
    let d = g.D.SectorDisk.disk in
    let w = c.self.inside in
    let plan = c.self.invariant.1 in
    rw c.at_rest.ensures.disk
    (subst (λ (v : WritingView g.row.D.Denot). MakesFirst (calls_left v) [] (d v.disk) (d c.make.new.disk) (Ok tt)) c.self.view_is
    (makes_last _ w.parts.place.idle _ _ _ _ _ _ c.self.invariant.0 plan.body.octets plan.body.sectors (sym c.in-None.is ∙ c.next.ensures)
    (c.in_default.ensures.makes w.parts.number w.parts.state)))

pub returns-in-None-clause-any_moment : goal.returns-in-None-clause-any_moment
returns-in-None-clause-any_moment g c =
    let w = c.self.inside in
    rw c.at_rest.ensures.disk
    (moment_of g.D.SectorDisk.disk c.make.new.disk c.make.result c.self.view_is c.self.invariant.0 c.self.invariant.1
    (c.make.ensures.makes w.parts.number w.parts.state))

-- the journal after the last call is at the number and state after the batch
standing_after : (g : Given.Over) (c : goal.After-at_rest g)
    → c.at_rest.result.standing
    ≡ with_batch (stands c.self.inside.parts) (values c.self.inside.batch.commands.items)
standing_after g c =
    let w = c.self.inside in
    c.at_rest.ensures.standing
    ∙ standing_written w.parts.place w.parts.number _ w.plan.body.span w.parts.state w.plan.next (values w.batch.commands.items)
    c.self.invariant.1.body.span
    (omega (arith, c.len.ensures, length-map w.batch.commands.items value_of)) c.self.invariant.1.next

pub returns-in-None-clause-durable : goal.returns-in-None-clause-durable
returns-in-None-clause-durable g c u =
    let d = g.D.SectorDisk.disk in
    let w = c.self.inside in
    let plan = c.self.invariant.1 in
    let under = subst (λ (v : WritingView g.row.D.Denot). IsUnderway d v) (sym c.self.view_is) u in
    let rests : IsAtRest (d c.make.new.disk) (with_batch (stands w.parts) (values w.batch.commands.items))
    w.parts.place.idle =
    durable _ w.parts.place.idle _ _ _ _ _ _ c.self.invariant.0 plan.body.octets plan.body.sectors (sym c.in-None.is ∙ c.next.ensures)
    (c.in_default.ensures.makes w.parts.number w.parts.state) under in
    rest_means _ _ _ _ _ _ (ap d c.at_rest.ensures.disk) (standing_after g c) c.at_rest.ensures.idle rests

-- ---- a paused checkpoint

pub returns-in-Some-clause-beside : goal.returns-in-Some-clause-beside
returns-in-Some-clause-beside g c b =
    let d = g.D.SectorDisk.disk in
    let w = c.self.inside in
    let s = stands w.parts in
    let commands = values w.batch.commands.items in
    let plan = c.self.invariant.1 in
    let beside = subst (λ (v : WritingView g.row.D.Denot). IsBeside (d v.disk) v.standing v.begun) (sym c.self.view_is) b in
    beside_after (d w.disk) (d c.make.new.disk) s commands (body_for s commands) (sectors_for s commands) w.phase w.parts.place.idle
    w.begun
    (fit_of _ _ _ _ c.self.invariant.0) c.self.invariant.0.in_phase
    (subst (λ (os : List ℕ). Made (call_of s os w.phase ∷ []) (d w.disk) (d c.make.new.disk)) plan.body.octets
    (c.in_default.ensures.makes w.parts.number w.parts.state)) c.self.invariant.4 beside

pub at_rest-requires-clause-begun : goal.at_rest-requires-clause-begun
at_rest-requires-clause-begun g c =
    let d = g.D.SectorDisk.disk in
    let w = c.self.inside in
    let s = stands w.parts in
    let commands = values w.batch.commands.items in
    let plan = c.self.invariant.1 in
    let behind = standing_written w.parts.place w.parts.number (w.parts.number + c.len.result) w.plan.body.span w.parts.state
    w.plan.next commands plan.body.span
    (omega (arith, c.len.ensures, length-map w.batch.commands.items value_of)) plan.next in
    subst (λ (t : Standing). IsSetAside (d c.make.new.disk) t w.parts.place.idle c.owing-begun.result) (sym behind)
    (set_aside_owing (d w.disk) (d c.make.new.disk) s w.parts.place.idle commands w.begun c.owing-begun.result w.plan.body
    (w.parts.place.epoch + 1)
    (c.in_default.ensures.makes w.parts.number w.parts.state).after.sectors c.self.invariant.4 c.self.invariant.0.follows plan.body refl
    c.owing-begun.ensures)

pub returns-in-None-clause-paused : goal.returns-in-None-clause-paused
returns-in-None-clause-paused g c u b =
    let d = g.D.SectorDisk.disk in
    let w = c.self.inside in
    let s = stands w.parts in
    let commands = values w.batch.commands.items in
    let plan = c.self.invariant.1 in
    let made = c.in_default.ensures.makes w.parts.number w.parts.state in
    let under = subst (λ (v : WritingView g.row.D.Denot). IsUnderway d v) (sym c.self.view_is) u in
    let beside = subst (λ (v : WritingView g.row.D.Denot). IsBeside (d v.disk) v.standing v.begun) (sym c.self.view_is) b in
    let rests : IsAtRest (d c.make.new.disk) (with_batch s commands) w.parts.place.idle =
    durable _ w.parts.place.idle _ _ _ _ _ _ c.self.invariant.0 plan.body.octets plan.body.sectors (sym c.in-None.is ∙ c.next.ensures)
    made
    under in
    let still = beside_after (d w.disk) (d c.make.new.disk) s commands (body_for s commands) (sectors_for s commands) w.phase
    w.parts.place.idle
    w.begun (fit_of _ _ _ _ c.self.invariant.0) c.self.invariant.0.in_phase
    (subst (λ (os : List ℕ). Made (call_of s os w.phase ∷ []) (d w.disk) (d c.make.new.disk)) plan.body.octets made)
    c.self.invariant.4 beside in
    rw (c.at_rest.ensures.disk, standing_after g c, c.at_rest.ensures.begun)
    (paused_after (d w.disk) (d c.make.new.disk) s commands w.parts.place.idle w.begun c.owing-begun.result w.plan.body
    (w.parts.place.epoch + 1)
    made.after.sectors c.self.invariant.4 c.self.invariant.0.follows plan.body refl c.owing-begun.ensures still rests)

pub returns-in-None-clause-done : goal.returns-in-None-clause-done
returns-in-None-clause-done g c =
    let d = g.D.SectorDisk.disk in
    let w = c.self.inside in
    let s = stands w.parts in
    let commands = values w.batch.commands.items in
    let plan = c.self.invariant.1 in record {
      standing = standing_after g c ∙ ap (λ (v : WritingView g.row.D.Denot). with_batch v.standing v.commands) c.self.view_is;
      idle = c.at_rest.ensures.idle ∙ ap (λ (v : WritingView g.row.D.Denot). v.idle) c.self.view_is;
      history = c.at_rest.ensures.history ∙ c.with_batch-parts.ensures
          ∙ ap (λ (v : WritingView g.row.D.Denot). written_after v.history v.commands) c.self.view_is;
      begun = c.at_rest.ensures.begun
          ∙ views-owing (d w.disk) (d c.make.new.disk) s w.parts.place.idle commands w.begun c.owing-begun.result w.plan.body
          (w.parts.place.epoch + 1)
          (c.in_default.ensures.makes w.parts.number w.parts.state).after.sectors c.self.invariant.4 c.self.invariant.0.follows
          plan.body refl
          c.owing-begun.ensures
          ∙ ap (λ (v : WritingView g.row.D.Denot). option_map (with_owed v.commands) v.begun) c.self.view_is;
      first = c.self.invariant.2 ∙ ap (λ (v : WritingView g.row.D.Denot). v.standing.number + 1) c.self.view_is;
      commands = ap (λ (v : WritingView g.row.D.Denot). v.commands) c.self.view_is;
    }

-- ---- runs

pub returns-in-Err-clause-run : goal.returns-in-Err-clause-run
returns-in-Err-clause-run g c r writing =
    run_of_call g.D.SectorDisk.disk c.args.self c.make.new.disk (returns-in-Err-clause-any_moment g c writing.0) writing

pub returns-in-Some-clause-run : goal.returns-in-Some-clause-run
returns-in-Some-clause-run g c r writing = (
  returns-in-Some-clause-underway g c writing.0,
  (
    run_of_call g.D.SectorDisk.disk c.args.self c.make.new.disk (returns-in-Some-clause-any_moment g c writing.0) writing,
    ap (λ (v : WritingView g.row.D.Denot). v.standing.number) c.self.view_is ∙ writing.1.1,
    ap (λ (v : WritingView g.row.D.Denot). v.standing.state) c.self.view_is ∙ writing.1.2,
  ),
  writing.2 ∙ sym (ap (λ (v : WritingView g.row.D.Denot). v.commands) c.self.view_is),
  returns-in-Some-clause-beside g c writing.3,
)

pub returns-in-None-clause-run : goal.returns-in-None-clause-run
returns-in-None-clause-run g c r writing =
    run_of_written g.D.SectorDisk.disk c.args.self c.at_rest.result (returns-in-None-clause-durable g c writing.0).0
    (standing_after g c ∙ ap (λ (v : WritingView g.row.D.Denot). with_batch v.standing v.commands) c.self.view_is)
    (returns-in-None-clause-any_moment g c writing.0) (returns-in-None-clause-paused g c writing.0 writing.3) writing
