use Rattle.std.proofs.Common.{◌≡◌, List, [], Option, Some, Ok, Err, refl, sym, ◌∙◌, ap, subst}
use Rattle.iol_journal.specs.BegunParts.{log_of, commands_owed, view_of}
use Rattle.iol_journal.specs.BegunViews.{BegunView}
use Rattle.iol_journal.specs.Checkpoints.{target, with_batches}
use Rattle.iol_journal.specs.CheckpointViews.{CheckpointingView, end_of, stages_left, IsCheckpointUnderway}
use Rattle.iol_journal.specs.Pauses.{calls_of, IsDrawnUp, IsPaused}
use Rattle.iol_journal.specs.Drafts.{begun_after, stage_after}
use Rattle.iol_layout.specs.Layout.{Layout, renewed}
use Rattle.iol_layout.specs.Standings.{IsResting}
use Rattle.iol_journal.specs.Parts.{stands}
use Rattle.iol_layout.specs.Meaning.{Standing}
use Rattle.iol_disk.specs.Calls.{Call, MakesFirst}
use Rattle.iol_journal.specs.Phases.{IsAtRest}
use Rattle.iol_layout.specs.declared.idle.Idle.TheVariants.{Older}
use Rattle.iol_journal.proofs.BegunLaws.{moved_view, begun_next, begun-behind, view-moved, ends-moved, stands_there, ends_there}
use Rattle.iol_journal.proofs.Views.{moment_of}
use Rattle.iol_journal.proofs.CheckpointSteps.{underway, durable, resting, makes_first, makes_last, fails_first}
use Rattle.iol_journal.proofs.DraftLaws.{resting_on}
use Rattle.iol_journal.proofs.Phases.{rest_means}
use Rattle.iol_journal.proofs.RunSteps.{run_of_same_meaning}
use Rattle.iol_journal.proofs.checkpointing.Checkpointing.step.Given
use Rattle.iol_journal.proofs.checkpointing.Checkpointing.step.Goals as goal

pub make_stage-requires : goal.make_stage-requires
make_stage-requires g c = (c.self.inside.parts.number, c.self.inside.parts.state, c.self.invariant.1)

-- ---- the call failed

pub returns-in-Err-clause-call : goal.returns-in-Err-clause-call
returns-in-Err-clause-call g c =
    let d = g.D.SectorDisk.disk in
    let w = c.self.inside in
    let s = stands w.parts in
    let is = c.self.invariant.1 in
    subst (λ (v : CheckpointingView g.row.D.Denot).
    (others : List Call) × MakesFirst (stages_left v) others (d v.disk) (d c.make_stage.new.disk) (Err c.in-Err.fault)) c.self.view_is
    (fails_first s (log_of w.begun) (commands_owed w.begun.owed.items) w.begun.stage _ _ is.drafted c.in-Err.fault
    (c.in-Err.ensures w.parts.number w.parts.state is))

pub returns-in-Err-clause-any_moment : goal.returns-in-Err-clause-any_moment
returns-in-Err-clause-any_moment g c =
    let w = c.self.inside in
    moment_of g.D.SectorDisk.disk c.make_stage.new.disk c.make_stage.result c.self.view_is c.self.invariant.1.drafted
    (c.make_stage.ensures w.parts.number w.parts.state c.self.invariant.1)

pub returns-in-Err-clause-run : goal.returns-in-Err-clause-run
returns-in-Err-clause-run g c r run =
    let d = g.D.SectorDisk.disk in
    let s = c.args.self.standing in
    (run_of_same_meaning (d c.args.self.disk) (d c.make_stage.new.disk) s s r refl refl (returns-in-Err-clause-any_moment g c run.0)
    run.1).0

-- ---- more calls are needed

pub next_stage-requires-clause-begun : goal.next_stage-requires-clause-begun
next_stage-requires-clause-begun g c =
    let w = c.self.inside in (
      g.D.SectorDisk.disk w.disk,
      stands w.parts,
      c.self.invariant.1,
      c.slots-slots.ensures.value ∙ ap (λ
          (l : Layout). l.slots) c.renewed_layout-layout.ensures,
    )

pub moved_to-requires-clause-begun : goal.moved_to-requires-clause-begun
moved_to-requires-clause-begun g c =
    let w = c.self.inside in (
      g.D.SectorDisk.disk w.disk,
      stands w.parts,
      c.self.invariant.1,
      c.slots-slots.ensures.value ∙ ap (λ
          (l : Layout). l.slots) c.renewed_layout-layout.ensures,
    )

-- the next stage
next_told : (g : Given.Over) (c : goal.After-moved_to g)
    → stage_after (target (stands c.self.inside.parts) (log_of c.self.inside.begun))
    (commands_owed c.self.inside.begun.owed.items) c.self.inside.begun.stage ≡ Some c.in-Some.stage
next_told g c =
    let w = c.self.inside in
    sym (c.next_stage.ensures (g.D.SectorDisk.disk w.disk) (stands w.parts) c.self.invariant.1
    (c.slots-slots.ensures.value ∙ ap (λ (l : Layout). l.slots) c.renewed_layout-layout.ensures)) ∙ c.in-Some.is

-- the checkpoint after the call, as contracts see it
view_told : (g : Given.Over) (c : goal.After-moved_to g) → view_of c.moved_to.result ≡ moved_view c.self.inside.begun c.in-Some.stage
view_told g c =
    let moved = c.moved_to.ensures in
    view-moved c.self.inside.begun c.moved_to.result c.in-Some.stage moved.log moved.owed moved.stage

pub invariant_of-result : goal.invariant_of-result
invariant_of-result g c =
    let d = g.D.SectorDisk.disk in
    let w = c.self.inside in
    let s = stands w.parts in
    let is = c.self.invariant.1 in
    let made = c.in_default.ensures w.parts.number w.parts.state is in
    let moved = c.moved_to.ensures in (
      resting_on (d w.disk) (d c.make_stage.new.disk) s made.after.sectors c.self.invariant.0,
      begun_next (d w.disk) (d c.make_stage.new.disk) s w.begun c.moved_to.result c.in-Some.stage made.after.sectors is (next_told g c)
          moved.plan moved.log moved.owed moved.stage,
      c.self.invariant.2,
    )

pub returns-in-Some-clause-call : goal.returns-in-Some-clause-call
returns-in-Some-clause-call g c =
    let d = g.D.SectorDisk.disk in
    let w = c.self.inside in
    let s = stands w.parts in
    let is = c.self.invariant.1 in
    subst (λ (v : CheckpointingView g.row.D.Denot).
    MakesFirst (stages_left v) (calls_of s (view_of c.moved_to.result)) (d v.disk) (d c.make_stage.new.disk) (Ok tt)) c.self.view_is
    (subst (λ (b : BegunView). MakesFirst (calls_of s (view_of w.begun)) (calls_of s b) (d w.disk) (d c.make_stage.new.disk) (Ok tt))
    (sym (view_told g c))
    (makes_first s (log_of w.begun) (commands_owed w.begun.owed.items) w.begun.stage _ _ is.drafted c.in-Some.stage (next_told g c)
    (c.in_default.ensures w.parts.number w.parts.state is)))

pub returns-in-Some-clause-any_moment : goal.returns-in-Some-clause-any_moment
returns-in-Some-clause-any_moment g c =
    let w = c.self.inside in
    moment_of g.D.SectorDisk.disk c.make_stage.new.disk c.make_stage.result c.self.view_is c.self.invariant.1.drafted
    (c.make_stage.ensures w.parts.number w.parts.state c.self.invariant.1)

pub returns-in-Some-clause-underway : goal.returns-in-Some-clause-underway
returns-in-Some-clause-underway g c u =
    let d = g.D.SectorDisk.disk in
    let w = c.self.inside in
    let s = stands w.parts in
    let is = c.self.invariant.1 in
    let under = subst (λ (v : CheckpointingView g.row.D.Denot). IsCheckpointUnderway d v) (sym c.self.view_is) u in
    subst (IsDrawnUp (d c.make_stage.new.disk) s) (sym (view_told g c))
    (underway s (log_of w.begun) (commands_owed w.begun.owed.items) w.begun.stage _ _ is.drafted c.in-Some.stage (next_told g c)
    (c.in_default.ensures w.parts.number w.parts.state is) under)

pub returns-in-Some-clause-more : goal.returns-in-Some-clause-more
returns-in-Some-clause-more g c =
    let w = c.self.inside in
    let moved = c.moved_to.ensures in record {
      standing = ap (λ (v : CheckpointingView g.row.D.Denot). v.standing) c.self.view_is;
      history = ap (λ (v : CheckpointingView g.row.D.Denot). v.history) c.self.view_is;
      behind =
          subst (λ (v : CheckpointingView g.row.D.Denot). begun_after v.standing v.begun ≡ Some (view_of c.moved_to.result)) c.self.view_is
          (begun-behind (stands w.parts) w.begun c.moved_to.result c.in-Some.stage
          (next_told g c) moved.log moved.owed
          moved.stage);
      end = ap (λ (b : BegunView). with_batches (target (stands w.parts) b.log) b.owed) (view_told g c)
          ∙ ends-moved (g.D.SectorDisk.disk w.disk) (stands w.parts) w.begun c.self.invariant.1
          ∙ ap (λ (v : CheckpointingView g.row.D.Denot). end_of v) c.self.view_is;
    }

pub returns-in-Some-clause-run : goal.returns-in-Some-clause-run
returns-in-Some-clause-run g c r run =
    let d = g.D.SectorDisk.disk in
    let w = c.self.inside in (
      returns-in-Some-clause-underway g c run.0,
      run_of_same_meaning (d c.args.self.disk) (d c.make_stage.new.disk) c.args.self.standing (stands w.parts) r
          (ap (λ (v : CheckpointingView g.row.D.Denot). v.standing.number) c.self.view_is)
          (ap (λ (v : CheckpointingView g.row.D.Denot). v.standing.state) c.self.view_is)
          (returns-in-Some-clause-any_moment g c run.0) run.1,
      run.2,
    )

-- ---- the checkpoint is done

pub at_rest-requires-clause-resting : goal.at_rest-requires-clause-resting
at_rest-requires-clause-resting g c =
    let d = g.D.SectorDisk.disk in
    let w = c.self.inside in
    let s = stands w.parts in
    let is = c.self.invariant.1 in
    let none = sym (c.next_stage.ensures (d w.disk) s is (c.slots-slots.ensures.value
    ∙ ap (λ (l : Layout). l.slots) c.renewed_layout-layout.ensures)) ∙ c.in-None.is in
    subst (IsResting (d c.make_stage.new.disk))
    (sym (stands_there (d w.disk) s w.begun is none c.renewed_layout-layout.result c.other.result c.renewed_layout-layout.ensures
    c.other.ensures))
    (resting s (log_of w.begun) (commands_owed w.begun.owed.items) w.begun.stage _ _ is.drafted
    (c.in_default.ensures w.parts.number w.parts.state is))

pub returns-in-None-clause-call : goal.returns-in-None-clause-call
returns-in-None-clause-call g c =
    let d = g.D.SectorDisk.disk in
    let w = c.self.inside in
    let s = stands w.parts in
    let is = c.self.invariant.1 in
    let none = sym (c.next_stage.ensures (d w.disk) s is (c.slots-slots.ensures.value
    ∙ ap (λ (l : Layout). l.slots) c.renewed_layout-layout.ensures)) ∙ c.in-None.is in
    rw c.at_rest.ensures.disk
    (subst (λ (v : CheckpointingView g.row.D.Denot). MakesFirst (stages_left v) [] (d v.disk) (d c.make_stage.new.disk) (Ok tt))
    c.self.view_is
    (makes_last s (log_of w.begun) (commands_owed w.begun.owed.items) w.begun.stage _ _ is.drafted none
    (c.in_default.ensures w.parts.number w.parts.state is)))

pub returns-in-None-clause-any_moment : goal.returns-in-None-clause-any_moment
returns-in-None-clause-any_moment g c =
    let w = c.self.inside in
    rw c.at_rest.ensures.disk
    (moment_of g.D.SectorDisk.disk c.make_stage.new.disk c.make_stage.result c.self.view_is c.self.invariant.1.drafted
    (c.make_stage.ensures w.parts.number w.parts.state c.self.invariant.1))

-- the journal is in the other area
stands_in_other : (g : Given.Over) (c : goal.After-drop-begun-in-None-2 g) → c.at_rest.result.standing
    ≡ target (stands c.self.inside.parts) (log_of c.self.inside.begun)
stands_in_other g c =
    let w = c.self.inside in
    let s = stands w.parts in
    let is = c.self.invariant.1 in
    let d = g.D.SectorDisk.disk w.disk in
    let none = sym (c.next_stage.ensures d s is (c.slots-slots.ensures.value
    ∙ ap (λ (l : Layout). l.slots) c.renewed_layout-layout.ensures)) ∙ c.in-None.is in
    c.at_rest.ensures.standing
    ∙ stands_there d s w.begun is none c.renewed_layout-layout.result c.other.result c.renewed_layout-layout.ensures
    c.other.ensures

-- if no batch is owed
stands_at_end : (g : Given.Over) (c : goal.After-drop-begun-in-None-2 g) → c.at_rest.result.standing
    ≡ with_batches (target (stands c.self.inside.parts) (log_of c.self.inside.begun))
    (commands_owed c.self.inside.begun.owed.items)
stands_at_end g c =
    let w = c.self.inside in
    let s = stands w.parts in
    let is = c.self.invariant.1 in
    let d = g.D.SectorDisk.disk w.disk in
    let none = sym (c.next_stage.ensures d s is (c.slots-slots.ensures.value
    ∙ ap (λ (l : Layout). l.slots) c.renewed_layout-layout.ensures)) ∙ c.in-None.is in
    stands_in_other g c ∙ sym (ends_there d s w.begun is none)

pub returns-in-None-clause-done : goal.returns-in-None-clause-done
returns-in-None-clause-done g c = record {
  standing = stands_at_end g c ∙ ap (λ (v : CheckpointingView g.row.D.Denot). end_of v) c.self.view_is;
  idle = c.at_rest.ensures.idle;
  history = c.at_rest.ensures.history ∙ ap (λ (v : CheckpointingView g.row.D.Denot). v.history) c.self.view_is;
  none = c.at_rest.ensures.begun;
  number = ap (λ (t : Standing). t.number) c.at_rest.ensures.standing
      ∙ ap (λ (v : CheckpointingView g.row.D.Denot). v.standing.number) c.self.view_is;
  state = ap (λ (t : Standing). t.state) c.at_rest.ensures.standing
      ∙ ap (λ (v : CheckpointingView g.row.D.Denot). v.standing.state) c.self.view_is;
  layout = ap (λ (t : Standing). t.layout) c.at_rest.ensures.standing ∙ c.renewed_layout-layout.ensures
      ∙ ap (λ (v : CheckpointingView g.row.D.Denot). renewed v.standing.layout) c.self.view_is;
}

pub returns-in-None-clause-durable : goal.returns-in-None-clause-durable
returns-in-None-clause-durable g c u =
    let d = g.D.SectorDisk.disk in
    let w = c.self.inside in
    let s = stands w.parts in
    let is = c.self.invariant.1 in
    let none = sym (c.next_stage.ensures (d w.disk) s is (c.slots-slots.ensures.value
    ∙ ap (λ (l : Layout). l.slots) c.renewed_layout-layout.ensures)) ∙ c.in-None.is in
    let under = subst (λ (v : CheckpointingView g.row.D.Denot). IsCheckpointUnderway d v) (sym c.self.view_is) u in
    let rests : IsAtRest (d c.make_stage.new.disk) (target s (log_of w.begun)) Older =
    durable s (log_of w.begun) (commands_owed w.begun.owed.items) w.begun.stage _ _ is.drafted none
    (c.in_default.ensures w.parts.number w.parts.state is) under in
    rest_means _ _ _ _ _ _ (ap d c.at_rest.ensures.disk) (stands_in_other g c) c.at_rest.ensures.idle rests

pub returns-in-None-clause-run : goal.returns-in-None-clause-run
returns-in-None-clause-run g c r run =
    let d = g.D.SectorDisk.disk in
    let done = returns-in-None-clause-done g c in (
      (returns-in-None-clause-durable g c run.0).0,
      run_of_same_meaning (d c.args.self.disk) (d c.at_rest.result.disk) c.args.self.standing c.at_rest.result.standing r
          done.number done.state
          (returns-in-None-clause-any_moment g c run.0) run.1,
      run.2,
      subst (λ (begun : Option BegunView). IsPaused (d c.at_rest.result.disk) c.at_rest.result.standing begun)
          (sym c.at_rest.ensures.begun) tt,
    )
