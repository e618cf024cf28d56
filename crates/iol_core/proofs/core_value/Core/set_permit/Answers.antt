use Rattle.std.proofs.Common.{◌≡◌, ◌≤◌, ◌-◌, ℕ, List, Option, slice_set, sym, subst, arith}
use Rattle.iol_journal.specs.Body.{values}
use Rattle.iol_core.specs.Core.{CoreView, IsCore, FitsAt, live}
use Rattle.iol_core.specs.declared.permit.Grant.{Grant}
use Rattle.iol_core.proofs.Keeping.{permit_core}
use Rattle.iol_core.proofs.core_value.Core.set_permit.Goals as goal

pub invariant_of-self : goal.invariant_of-self
invariant_of-self g c =
    let i = c.self.inside in
    let was = c.self.invariant in
    let start = g.F.Name.front.start in
    let port = c.args.port in
    let old : CoreView =
    record {
      durable = i.durable;
      number = i.number;
      queue = values i.queue.items;
      flight = i.flight;
      permits = i.permits.items;
      stopped = i.stopped;
      seen = i.pass;
    } in
    let fits : FitsAt (live old) port c.args.permit =
    subst (λ (v : CoreView). FitsAt (live v) port c.args.permit) (sym c.self.view_is) c.requires in
    let one : 1 ≤ port = omega arith in
    let put : c.put_permit.new.permits.items ≡ slice_set i.permits.items c.place.result c.args.permit = c.put_permit.ensures in
    let place : c.place.result ≡ port - 1 = omega arith in (
      subst (λ (l : List (Option Grant)). IsCore start (record old { permits = l })) (sym put)
          (subst (λ (n : ℕ). IsCore start (record old { permits = slice_set i.permits.items n c.args.permit })) (sym place)
          (permit_core start old port c.args.permit was.0 one fits)),
      was.1,
      was.2,
    )
