use Rattle.std.proofs.Common.{◌≡◌, ◌∙◌, ℕ, List, Bor, Option, Some, None, Vec, Global, IfOk, OnErr, refl, sym, ap, subst, rules}
use Rattle.json.proofs.Trees.{view-Object}
use Rattle.json.specs.Value.{value_view, members_view}
use Rattle.json.specs.declared.value.Value.{Value, Object}
use Rattle.iol_requests.specs.Json.{request_of, request_with}
use Rattle.iol_requests.specs.declared.request.Request.{Request}
use Rattle.iol_requests.proofs.Tables.{Member}
use Rattle.iol_requests.proofs.object.read_request.Goals as goal

-- the request of an object is that of its members
object_asks : (value : Value Global) (members : Vec Member Global) (items : List Member) → value ≡ Object members
    → items ≡ members.items → request_of (value_view value) ≡ request_with (members_view items)
object_asks value members items is same =
    ap (λ (v : Value Global). request_of (value_view v)) is ∙ ap request_of (view-Object members)
    ∙ ap (λ (ms : List Member). request_with (members_view ms)) (sym same)

pub returns-in-Object-clause-request : goal.returns-in-Object-clause-request
returns-in-Object-clause-request c =
    let asks = object_asks c.args.value.now c.in-Object.members c.as_slice.result.now c.in-Object.is c.as_slice.ensures.value in
    let P : Option Request → Type 0 = λ asked. IfOk c.read_members.result (λ read. IfOk read (λ request. asked ≡ Some request)) in
    subst P (sym asks) c.read_members.ensures.request

pub returns-in-Object-clause-none : goal.returns-in-Object-clause-none
returns-in-Object-clause-none c =
    let asks = object_asks c.args.value.now c.in-Object.members c.as_slice.result.now c.in-Object.is c.as_slice.ensures.value in
    let P : Option Request → Type 0 = λ asked. IfOk c.read_members.result (λ read. OnErr read (asked ≡ None)) in
    subst P (sym asks) c.read_members.ensures.none
