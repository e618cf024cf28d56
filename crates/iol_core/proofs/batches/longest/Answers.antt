use Rattle.std.proofs.Common.{◌≡◌, ◌≤◌, length, sym, arith}
use Rattle.iol_journal.specs.Body.{values}
use Rattle.iol_core.proofs.Longest.{stops_here}
use Rattle.iol_core.proofs.Queues.{records_next, length-values}
use Rattle.iol_core.proofs.batches.longest.Goals as goal

pub loop-count-preserved : goal.loop-count-preserved
loop-count-preserved c =
    let sum = records_next c.args.queue.now.items c.loop-count.count c.index.result.now (omega arith) (sym c.index.ensures) in
    let octets = c.loop-count.invariant.octets in
    let next = rw c.newest.ensures at c.command_record_octets-next.ensures.count in
    record { octets = omega (arith, sum, octets, next); fits = omega arith }

pub returns-then-room-octets-clause-longest : goal.returns-then-room-octets-clause-longest
returns-then-room-octets-clause-longest c =
    let queue = c.args.queue.now.items in
    let sum = records_next queue c.loop-count.count c.index.result.now (omega arith) (sym c.index.ensures) in
    let octets = c.loop-count.invariant.octets in
    let next = rw c.newest.ensures at c.command_record_octets-next.ensures.count in
    let long : length (values queue) ≡ length queue = length-values queue in
    let fits : c.loop-count.octets ≤ c.args.room = c.loop-count.invariant.fits in
    stops_here c.args.room (values queue) c.loop-count.count (omega (arith, long)) (omega (arith, octets, fits)) (λ _.
    omega (arith, sum, octets, next))
