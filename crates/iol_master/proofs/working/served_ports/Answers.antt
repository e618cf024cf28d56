use Rattle.std.proofs.Common.{◌≡◌, ◌∷◌, arith, rules}
use Rattle.iol_master.specs.declared.working.ServedPort.{ServedPort}
use Rattle.iol_master.proofs.ServedOver.{longer_by_one, over_more, port_more}
use Rattle.iol_master.proofs.working.served_ports.Goals as goal

-- one more link is served, by the port with the next number if there is one
pub loop-link-preserved : goal.loop-link-preserved
loop-link-preserved g c =
    let so_far = c.loop-link.invariant in
    let new : ServedPort g.row.L.Denot g.row.F.Denot =
    record { port = c.in-Some-new.port; link = c.in-Some.link; shared = c.in_ok-shared.shared; buffer = c.in_ok-buffer.buffer } in
    let next : c.loop-link.link-iterator.rest.items ≡ c.in-Some.link ∷ c.next.new.self.rest.items = search rules in
    let longer = longer_by_one c.loop-link.served.items c.push.new.self.items new c.in_ok-push.ensures.items in
    record {
      number = omega (arith, so_far.number, c.min-number.ensures, longer);
      over = over_more c.args.links.items c.loop-link.link-iterator.rest.items c.next.new.self.rest.items c.loop-link.served.items
          c.push.new.self.items new so_far.over next c.in_ok-push.ensures.items;
      port = λ k its below there.
          port_more c.loop-link.served.items c.push.new.self.items new its k so_far.port
          (λ last. omega (arith, last, below, so_far.number, c.min-number.ensures, c.in-Some-new.ensures.number)) c.in_ok-push.ensures.items
          below there;
    }
