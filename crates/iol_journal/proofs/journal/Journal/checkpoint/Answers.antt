use Rattle.std.proofs.Common.{◌≡◌, true, [], Option, Some, None, is_some, unwrap_or, refl, sym, ◌∙◌, ap, subst}
use Rattle.std.specs.Option.{option_map}
use Rattle.iol_disk.specs.Disk.{Disk}
use Rattle.iol_journal.specs.BegunParts.{view_of}
use Rattle.iol_journal.specs.declared.begun.Begun.{Begun}
use Rattle.iol_journal.specs.Journals.{JournalView}
use Rattle.iol_layout.specs.Meaning.{Standing}
use Rattle.iol_journal.specs.Pauses.{IsDrawnUp, IsPaused}
use Rattle.iol_journal.specs.BegunViews.{BegunView}
use Rattle.iol_journal.specs.Checkpoints.{checkpointed, new_begun}
use Rattle.iol_journal.proofs.Stages.{first_holds}
use Rattle.iol_journal.specs.CheckpointRuns.{IsRunCheckpointing}
use Rattle.iol_journal.specs.CheckpointViews.{CheckpointingView, IsCheckpointUnderway}
use Rattle.iol_journal.proofs.journal.Journal.checkpoint.Given
use Rattle.iol_journal.proofs.journal.Journal.checkpoint.Goals as goal

-- a new checkpoint as contracts see it
abbrev New : (g : Given.Over) (c : goal.After-with_checkpoint g) → CheckpointingView g.row.D.Denot
New g c = record {
  disk = c.args.self.disk;
  standing = c.args.self.standing;
  history = c.args.self.history;
  begun = new_begun c.args.self.standing c.args.self.idle;
}

is_new : (g : Given.Over) (c : goal.After-with_checkpoint g) → c.with_checkpoint.result ≡ New g c
is_new g c =
    c.with_checkpoint.ensures
    ∙ ap (λ (begun : BegunView). record {
      disk = c.args.self.disk;
      standing = c.args.self.standing;
      history = c.args.self.history;
      begun = begun;
    }) c.in-Ok.ensures.view

-- a paused checkpoint is continued
goes_on : (d : Disk) (s : Standing) (begun : Option BegunView) (first : BegunView) → is_some begun ≡ true → IsPaused d s begun
    → IsDrawnUp d s (unwrap_or begun first)
goes_on d s None first some paused = absurd cc
goes_on d s (Some begun) first some paused = paused

some-view : (begun : Option Begun) → is_some begun ≡ true → is_some (option_map view_of begun) ≡ true
some-view None some = absurd cc
some-view (Some begun) some = refl

some_here : (g : Given.Over) (c : goal.After-go_on g) → is_some c.args.self.begun ≡ true
some_here g c =
    ap (λ (v : JournalView g.row.D.Denot). is_some v.begun) (sym c.self.view_is)
    ∙ some-view c.self.inside.begun (sym c.is_some.ensures ∙ c.if-is_some.true)

pub returns-then-is_some-clause-underway : goal.returns-then-is_some-clause-underway
returns-then-is_some-clause-underway g c rest paused =
    let d = g.D.SectorDisk.disk in
    let j = c.args.self in
    subst (IsCheckpointUnderway d) (sym c.go_on.ensures.begun)
    (goes_on (d j.disk) j.standing j.begun (new_begun j.standing j.idle) (some_here g c) paused)

pub returns-then-is_some-clause-run : goal.returns-then-is_some-clause-run
returns-then-is_some-clause-run g c r resting =
    let d = g.D.SectorDisk.disk in
    let j = c.args.self in
    subst (IsRunCheckpointing d r) (sym c.go_on.ensures.begun) (
      goes_on (d j.disk) j.standing j.begun (new_begun j.standing j.idle) (some_here g c) resting.3,
      resting.1,
      resting.2,
    )

pub returns-in-Ok-clause-underway : goal.returns-in-Ok-clause-underway
returns-in-Ok-clause-underway g c rest paused =
    let d = g.D.SectorDisk.disk in
    let j = c.args.self in
    subst (IsCheckpointUnderway d) (sym (is_new g c)) (λ h.
    first_holds (d j.disk).sectors j.standing (checkpointed j.standing) [] j.idle (d j.disk).content (rest h))

pub returns-in-Ok-clause-run : goal.returns-in-Ok-clause-run
returns-in-Ok-clause-run g c r resting =
    let d = g.D.SectorDisk.disk in
    let j = c.args.self in
    subst (IsRunCheckpointing d r) (sym (is_new g c)) (
      λ h. first_holds (d j.disk).sectors j.standing (checkpointed j.standing) [] j.idle (d j.disk).content (resting.0 h),
      resting.1,
      resting.2,
    )
