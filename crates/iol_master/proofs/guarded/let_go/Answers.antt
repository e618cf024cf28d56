use Rattle.std.proofs.Common.{◌≡◌, ◌∷◌, [], ◌++◌, None, List, Option, length, map, replicate, sym, ap, ◌∙◌, arith}
use Rattle.std.proofs.lemmas.List.{length-map, length-replicate, map-append, replicate-append-replicate}
use Rattle.std.specs.VecDeque.{deque_capacity, deque_len}
use Rattle.iol_types.specs.declared.command.Change.{Change}
use Rattle.iol_master.specs.Callers.{asked}
use Rattle.iol_master.proofs.Waiting.{not_taken, room_left}
use Rattle.iol_master.proofs.guarded.let_go.Goals as goal

pub loop-init : goal.loop-init
loop-init g c = record { none = ap (map asked) c.clear.ensures.items; room = c.clear.ensures.capacity }

-- one more place is kept
pub loop-preserved : goal.loop-preserved
loop-preserved g c =
    let filled : length c.loop.callers.items ≡ c.loop.counter =
    sym (length-map c.loop.callers.items asked) ∙ (ap length c.loop.invariant.none ∙ length-replicate c.loop.counter None) in
    let room = room_left (deque_len c.loop.callers) c.loop.counter c.len-places.result (deque_len c.args.callers.now)
    (deque_capacity c.loop.callers) (deque_capacity c.args.callers.now) (c.loop.callers.ok.0 ∙ filled) c.loop-test.true
    c.len-places.ensures c.args.callers.now.small.1 c.loop.invariant.room in
    record {
      none = ap (map asked) c.in-Ok.ensures.items
          ∙ (map-append asked c.loop.callers.items (None ∷ [])
          ∙ (ap (λ (places : List (Option Change)). places ++ None ∷ []) c.loop.invariant.none
          ∙ replicate-append-replicate c.loop.counter 1 None));
      room = c.in-Ok.ensures.in_place room ∙ c.loop.invariant.room;
    }

pub unreachable-requires : goal.unreachable-requires
unreachable-requires g c =
    let filled : length c.loop.callers.items ≡ c.loop.counter =
    sym (length-map c.loop.callers.items asked) ∙ (ap length c.loop.invariant.none ∙ length-replicate c.loop.counter None) in
    let room = room_left (deque_len c.loop.callers) c.loop.counter c.len-places.result (deque_len c.args.callers.now)
    (deque_capacity c.loop.callers) (deque_capacity c.args.callers.now) (c.loop.callers.ok.0 ∙ filled) c.loop-test.true
    c.len-places.ensures c.args.callers.now.small.1 c.loop.invariant.room in
    not_taken c.push_back.result c.in_default.field-0 (c.push_back.ensures.succeeds room) c.in_default.is

pub returns-clause-none : goal.returns-clause-none
returns-clause-none g c =
    let all : c.loop.counter ≡ length c.args.callers.now.items =
    omega (arith, c.loop-test.false, c.loop.auto.counter-end, c.len-places.ensures, c.args.callers.now.ok.0) in
    c.loop.invariant.none ∙ ap (λ n. replicate n None) all

pub returns-clause-room : goal.returns-clause-room
returns-clause-room g c = c.loop.invariant.room
