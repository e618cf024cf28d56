use Rattle.std.proofs.Common.{ℕ, ◌+◌, length, ap, ◌∙◌, arith}
use Rattle.std.proofs.lemmas.Option.{slice_get_within}
use Rattle.iol_types.specs.Command.{command_of}
use Rattle.iol_front.specs.Fronts.{CommittedView}
use Rattle.iol_master.proofs.Notices.{stands_at}
use Rattle.iol_master.proofs.guarded.tell.Goals as goal

-- the command has the number of its place in the batch
pub new-notice-requires-after_bounds : goal.new-notice-requires-after_bounds
new-notice-requires-after_bounds g c lifetimes outlives =
    let start = g.F.Name.front.start in
    let place = c.args.place in
    stands_at start c.args.committed.now.before c.args.committed.now.commands c.show.new.pass (c.first.result + place) place
    (command_of c.args.caller.change) c.show.ensures.shown c.requires
    (ap (λ (first : ℕ). first + place)
    (c.first.ensures.first ∙ ap (λ (batch : CommittedView). start.number + length batch.before + 1) c.show.ensures.same))

pub overflow_add-number : goal.overflow_add-number
overflow_add-number g c =
    let same = ap (λ (batch : CommittedView). length batch.commands) c.show.ensures.same in
    omega (
      arith,
      c.first.ensures.bound,
      same,
      slice_get_within c.args.committed.now.commands c.args.place (command_of c.args.caller.change) c.requires,
    )

pub returns : goal.returns
returns g c = c.show.ensures.same
