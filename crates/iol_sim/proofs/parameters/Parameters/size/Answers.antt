use Rattle.std.proofs.Common.{arith}
use Rattle.iol_sim.proofs.TallyLemmas.{counted-one_more}
use Rattle.iol_sim.proofs.parameters.Parameters.size.Goals as goal

pub loop-place-preserved : goal.loop-place-preserved
loop-place-preserved c =
    let more = counted-one_more c.args.self.now c.loop-place.place (c.at.result.0, c.at.result.1.now) c.at.ensures.entry in
    record {
      counted = omega (arith, more, c.loop-place.invariant.counted);
      bounded = omega (arith, c.loop-place.invariant.bounded, c.at.ensures.short);
    }
