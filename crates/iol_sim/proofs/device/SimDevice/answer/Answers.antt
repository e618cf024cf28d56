use Rattle.std.proofs.Common.{refl, ◌≡◌, Option, ap, ◌∙◌, subst}
use Rattle.std.specs.Prelude.{IfSome}
use Rattle.iol_link.specs.Isdu.{IsAnswer}
use Rattle.iol_link.specs.declared.messages.Request.{Request}
use Rattle.iol_link.specs.declared.faults.IsduFault.{IsduFault}
use Rattle.iol_sim.specs.Device.{respond, no_service}
use Rattle.iol_sim.proofs.device.SimDevice.answer.Goals as goal

pub returns-in-Ok : goal.returns-in-Ok
returns-in-Ok c =
    let old = c.args.self.now in
    let octets = c.write_answer.result.items in
    record {
      request = λ request is.
          let only = c.in-Ok.ensures.only request is in
          let same : c.in-Ok.request ≡ request = cc in
          let answered : IsAnswer octets (respond old c.in-Ok.request).0
          = subst (IsAnswer octets) c.respond.ensures.answer c.write_answer.ensures in (
            subst (λ (r : Request). IsAnswer octets (respond old r).0) same answered,
            c.respond.ensures.device ∙ ap (λ (r : Request). (respond old r).1) same,
          );
      others = subst (λ (fault : Option IsduFault). IfSome fault (λ _. (octets ≡ no_service) × (c.respond.new.self ≡ old)))
          c.in-Ok.ensures.fault tt;
    }

pub returns-in-Err : goal.returns-in-Err
returns-in-Err c =
    let old = c.args.self.now in
    record {
      request = λ request is.
          let only = c.in-Err.ensures.only request is in absurd cc;
      others = subst (λ (fault : Option IsduFault). IfSome fault (λ _. (c.no_service.result.items ≡ no_service) × (old ≡ old)))
          c.in-Err.ensures.fault (c.no_service.ensures, refl);
    }
