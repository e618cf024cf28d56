use Rattle.std.proofs.Common.{arith}
use Rattle.iol_journal.proofs.BegunCalls.{first_is}
use Rattle.iol_journal.proofs.begun.Begun.moved_to.Goals as goal

pub overflow_add-result : goal.overflow_add-result
overflow_add-result c =
    let begun = c.requires.begun in
    let first = first_is begun.0 begun.1 c.args.self begun.2 c.in-Carry-SyncGate.field-0 c.in-Some.first c.pop_front.new.self.items
    c.in-Carry-SyncGate.is c.in-Some.ensures.items in
    omega (arith, c.requires.few, begun.3, first.encoded.span, first.follows.room)
