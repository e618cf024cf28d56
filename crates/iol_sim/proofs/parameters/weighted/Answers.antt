use Rattle.std.proofs.Common.{◌≡◌, ◌+◌, ◌*◌, ◌∙◌, ap, arith, get_or}
use Rattle.std.proofs.lemmas.Grind.{common_steps}
use Rattle.iol_sim.proofs.TallyLemmas.{weighted-one_more, small-product}
use Rattle.iol_sim.proofs.parameters.weighted.Goals as goal

pub loop-octet-preserved : goal.loop-octet-preserved
loop-octet-preserved c =
    let loop = c.loop-octet in
    let octet = get_or c.args.octets.now loop.octet-index 0 in
    let is : c.from.result ≡ octet = grind (arith, common_steps, c.from.ensures) in
    let term : loop.place * c.from.result ≡ (c.args.first + loop.octet-index) * octet
    = ap (λ n. n * c.from.result) loop.invariant.at ∙ ap (λ n. (c.args.first + loop.octet-index) * n) is in
    let one = weighted-one_more c.args.first c.args.octets.now loop.octet-index c.loop-octet-test.true in
    let product = small-product loop.place c.from.result
    (omega (arith, loop.invariant.at, c.loop-octet-test.true, c.requires.first, c.requires.short))
    (omega (arith, is, c.type_inv.octets loop.octet-index)) in
    record {
      summed = omega (arith, one, loop.invariant.summed, term);
      at = omega (arith, loop.invariant.at);
      small = omega (arith, loop.invariant.small, product);
    }
