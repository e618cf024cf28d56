use Rattle.std.proofs.lemmas.Grind.{common_steps}
use Rattle.std.proofs.Common.{◌≡◌, ◌+◌, ◌++◌, take, length, ap, sym, ◌∙◌, arith, length-append}
use Rattle.iol_sim.specs.Parameters.{weighted, all_octets}
use Rattle.iol_sim.proofs.TallyLemmas.{octets-one_more, weighted-append}
use Rattle.iol_sim.proofs.parameters.Parameters.checksum.Goals as goal

pub loop-place-preserved : goal.loop-place-preserved
loop-place-preserved c =
    let loop = c.loop-place in
    let so_far = all_octets (take loop.place c.args.self.now) in
    let more = octets-one_more c.args.self.now loop.place (c.at.result.0, c.at.result.1.now) c.at.ensures.entry in
    let sum : weighted 1 (so_far ++ c.at.result.1.now) ≡ loop.sum + c.weighted-sum.result =
    omega (
      arith,
      weighted-append 1 so_far c.at.result.1.now,
      loop.invariant.summed,
      c.weighted-sum.ensures.sum,
      ap (λ n. weighted n c.at.result.1.now) loop.invariant.counted,
    ) in
    let many : length (all_octets (take (loop.place + 1) c.args.self.now)) ≡ length so_far + length c.at.result.1.now =
    ap length more ∙ length-append so_far c.at.result.1.now in
    record {
      summed = sym (ap (weighted 1) more ∙ sum);
      counted = omega (arith, many, loop.invariant.counted);
      small = omega (arith, loop.invariant.small, c.weighted-sum.ensures.bound);
      short = omega (arith, loop.invariant.short, c.at.ensures.short);
    }

pub returns : goal.returns
returns c = grind (arith, common_steps)
