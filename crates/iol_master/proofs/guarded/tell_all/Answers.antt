use Rattle.std.proofs.Common.{◌≡◌, ◌∷◌, List, Option, Some, slice_get, drop, map, take, length, sym, ap, ◌∙◌, arith}
use Rattle.std.proofs.lemmas.List.{drop-map}
use Rattle.iol_front.specs.Fronts.{CommittedView}
use Rattle.iol_types.specs.declared.command.Change.{Change}
use Rattle.iol_master.specs.Callers.{asked}
use Rattle.iol_master.specs.declared.caller.Caller.{Caller}
use Rattle.iol_master.proofs.Waiting.{asked_at, dropped_next, first_after, taken_at}
use Rattle.iol_master.proofs.guarded.tell_all.Goals as goal
use Rattle.iol_master.proofs.guarded.tell_all.Goals.{in-Some-Some, in-Some+in-None-1, in-None-1}

-- the caller at this place requested the command at this place
pub tell-requires-after_bounds : goal.tell-requires-after_bounds
tell-requires-after_bounds g c lifetimes outlives =
    let all : List (Option Change) = map asked c.args.callers.now.items in
    let commands = c.args.committed.now.commands in
    let place = c.loop-place.place in
    let change = c.in-Some-Some.caller.change in
    let waits : drop place all ≡ Some change ∷ map asked c.pop_front.new.self.items =
    sym c.loop-place.invariant.left
    ∙ (ap (map asked) c.in-Some-Some.ensures.items
    ∙ ap (λ (first : Option (Caller g.row.F.Denot)). asked first ∷ map asked c.pop_front.new.self.items) c.in-Some-Some.field-0-is) in
    let there : slice_get (take (length commands) all) place ≡ Some (Some change) =
    taken_at (length commands) place all (omega (arith, c.loop-place-test.true, c.len-place-end.ensures))
    ∙ first_after all place (Some change) (map asked c.pop_front.new.self.items) waits in
    ap (λ (batch : CommittedView). slice_get batch.commands place) c.loop-place.invariant.same
    ∙ asked_at commands (take (length commands) all) place change c.requires there

-- one more caller got its notice, or the place has no caller
pub loop-place-preserved : goal.loop-place-preserved
loop-place-preserved g c =
    let all : List (Option Change) = map asked c.args.callers.now.items in
    record {
      same = elim c.match-pop_front.branch [
        | in-Some-Some w ↦ w.committed-is ∙ (w.tell.ensures ∙ c.loop-place.invariant.same)
        | in-Some+in-None-1 w ↦ w.committed-is ∙ c.loop-place.invariant.same
        | in-None-1 w ↦ w.committed-is ∙ c.loop-place.invariant.same
      ];
      left = ap (map asked) c.pop_front.ensures.rest
          ∙ (sym (drop-map asked 1 c.loop-place.callers.items) ∙ (ap (drop 1) c.loop-place.invariant.left
          ∙ dropped_next all c.loop-place.place));
      room = c.pop_front.ensures.capacity ∙ c.loop-place.invariant.room;
    }
