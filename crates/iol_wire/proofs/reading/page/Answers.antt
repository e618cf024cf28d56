use Rattle.std.proofs.Common.{refl, rules}
use Rattle.iol_wire.specs.Words.{words}
use Rattle.iol_wire.proofs.LineLemmas.{page_found, page_missing}
use Rattle.iol_wire.proofs.reading.page.Goals as goal

pub returns-in-Ok : goal.returns-in-Ok
returns-in-Ok c =
    let kept = c.in-Ok.ensures in
    rw kept.ok (page_found (words c.args.rest.now) c.in_ok-octets.octets.items c.in_ok-octets.ensures (kept.variant.0 refl))

pub returns-in-Err : goal.returns-in-Err
returns-in-Err c =
    page_missing (words c.args.rest.now) c.in_ok-octets.octets.items c.in_ok-octets.ensures
    (λ whole. search (rules, c.in-Err.ensures.variant))
