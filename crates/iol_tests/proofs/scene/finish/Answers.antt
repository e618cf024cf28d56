use Rattle.std.proofs.Common.{List, length, ap, ◌∙◌, arith}
use Rattle.iol_disk.specs.Calls.{Call}
use Rattle.iol_tests.proofs.scene.finish.Goals as goal

pub loop-next-smaller : goal.loop-next-smaller
loop-next-smaller g c = omega (arith, ap (λ (calls : List Call). length calls) c.in-More.ensures.call.order)

pub loop-next-preserved : goal.loop-next-preserved
loop-next-preserved g c =
    let so_far = c.loop-next.invariant in
    let more = c.in-More.ensures.more in
    (more.standing ∙ so_far.0, more.commands ∙ so_far.1)
