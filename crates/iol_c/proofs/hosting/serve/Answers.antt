use Rattle.std.proofs.Common.{rules, ◌≡◌, true, subst, ◌∙◌}
use Rattle.iol_handed.specs.Running.{is_end}
use Rattle.iol_handed.specs.Serving.{Serves}
use Rattle.iol_handed.specs.Sessions.{SessionView}
use Rattle.iol_c.proofs.Ends.{hosts_ended}
use Rattle.iol_c.proofs.hosting.serve.Goals as goal

pub returns-then-ends : goal.returns-then-ends
returns-then-ends g c =
    let ask = c.args.ask in let kept = c.args.kept in let after = c.serve-after.result.0 in let said = c.serve-after.result.1 in
    let same = c.replace.ensures.value ∙ c.into_box-session.ensures ∙ c.in-Some.ensures.1 in
    let serves : Serves ask kept.session after said = subst (λ (seen : SessionView). Serves ask seen after said) same
    c.serve-after.ensures in
    let ends : is_end ask ≡ true = search rules in
    hosts_ended ask kept.is_open kept.session c.none-then-ends.result.is_open c.none-then-ends.result.session after said c.in-Some.ensures.0
    c.none-then-ends.ensures.0 c.none-then-ends.ensures.1 ends serves
