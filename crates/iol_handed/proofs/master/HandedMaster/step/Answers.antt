use Rattle.std.proofs.Common.{◌≡◌, ◌-◌, ◌++◌, ℕ, Bool, Some, List, slice_get, slice_set, refl, ap, sym, ◌∙◌, subst, arith}
use Rattle.iol_engine.specs.Events.{told_of}
use Rattle.iol_engine.specs.HandedSteps.{settled_in}
use Rattle.iol_port.specs.Stage.{PortValue}
use Rattle.iol_handed.specs.Master.{HandedMasterView}
use Rattle.iol_handed.specs.Notes.{noted_after}
use Rattle.iol_handed.specs.PortSide.{MakesStep, DoesNotFit, is_gone}
use Rattle.iol_handed.proofs.master.HandedMaster.step.Goals as goal

pub returns-in-Ok-clause-steps : goal.returns-in-Ok-clause-steps
returns-in-Ok-clause-steps g c =
    let i = c.self-2.inside in
    let port = c.args.port in
    let old : HandedMasterView = record { made = i.made; reports = i.reports; notes = i.notes.items } in
    let same : old ≡ c.args.self.now = c.self-2.view_is ∙ c.buffer.ensures in
    let new : HandedMasterView = record {
      made = c.step_handed.new.self;
      reports = i.reports;
      notes = slice_set i.notes.items c.place.result c.noted_after.result;
    } in
    let place : c.place.result ≡ port - 1 = omega (arith, c.place.ensures.place) in
    let called = c.args.notes.attention in
    let on : slice_get c.args.self.now.made.connections (port - 1) ≡ Some c.in-Some.connection =
    ap (λ (m : HandedMasterView). slice_get m.made.connections (port - 1)) (sym c.self.view_is)
    ∙ (ap (λ (numbers : List ℕ). slice_get numbers (port - 1)) (sym c.engine.ensures.ports.1)
    ∙ (sym c.connection.ensures ∙ c.in-Some.is)) in
    let settled = c.is_settled-settled.ensures
    ∙ ap (λ (machines : List PortValue). settled_in (slice_get machines (port - 1))) c.engine-in-Ok.ensures.ports.0 in
    subst (λ (m : HandedMasterView). MakesStep port c.args.notes c.args.answer m new) same
    (record {
      connection = c.in-Some.connection;
      handed = c.new-handed.result;
      told = told_of c.in-Ok.told.called ++ told_of c.in-Ok.told.status;
      on = subst (λ (m : HandedMasterView). slice_get m.made.connections (port - 1) ≡ Some c.in-Some.connection) (sym same) on;
      handed_is = record {
        connection_is = c.new-handed.ensures.connection;
        event_is = c.new-handed.ensures.event;
        answer_is = c.new-handed.ensures.answer;
        last = c.new-handed.ensures.last;
      };
      steps = c.in-Ok.ensures.steps;
      flusher = c.in-Ok.ensures.others.0;
      committed = c.in-Ok.ensures.others.1;
      reports = refl;
      notes_are = ap (λ (at : ℕ). slice_set i.notes.items at c.noted_after.result) place
          ∙ ap (slice_set i.notes.items (port - 1)) (c.noted_after.ensures
          ∙ (ap (λ (gone : Bool). noted_after called gone c.is_settled-settled.result) c.is_gone-gone.ensures
          ∙ ap (noted_after called (is_gone c.args.answer)) settled));
    })

pub returns-in-Err-clause-steps : goal.returns-in-Err-clause-steps
returns-in-Err-clause-steps g c =
    let i = c.self-2.inside in
    let old : HandedMasterView = record { made = i.made; reports = i.reports; notes = i.notes.items } in
    let same : old ≡ c.args.self.now = c.self-2.view_is ∙ c.buffer.ensures in (
      subst (DoesNotFit c.args.port c.args.notes c.args.answer) same (
        c.in-Some.connection,
        c.new-handed.result,
        record {
          connection_is = c.new-handed.ensures.connection;
          event_is = c.new-handed.ensures.event;
          answer_is = c.new-handed.ensures.answer;
          last = c.new-handed.ensures.last;
        },
        c.in-Err.ensures.refused,
      ),
      ap (λ made. record { made = made; reports = i.reports; notes = i.notes.items }) c.in-Err.ensures.unchanged ∙ same,
    )
