use Rattle.std.proofs.Common.{◌≡◌, ◌<◌, ◌-◌, List, length, Some, slice_get, get_or, ap, sym, ◌∙◌, arith, rules}
use Rattle.std.proofs.lemmas.Option.{slice_get-get_or}
use Rattle.iol_port.specs.declared.status.PortStatus.{PortStatus}
use Rattle.iol_master.specs.News.{KnownView}
use Rattle.iol_master.proofs.news.Known.is_new.Goals as goal

pub returns : goal.returns
returns c is =
    let ms : List PortStatus = c.self.inside.statuses.items in
    let place = c.place.result in
    let last = c.in-Some.last.now in
    let at : place ≡ c.args.port - 1 = omega (arith, c.place.ensures.place) in
    let within : place < length ms =
    omega (arith, c.in-Some.ensures.lookup.3.0, ap (λ (l : List PortStatus). length l) c.deref.ensures.value) in
    let there : slice_get c.args.self.now.statuses (c.args.port - 1) ≡ Some last =
    ap (slice_get c.args.self.now.statuses) (sym at)
    ∙ (ap (λ (k : KnownView). slice_get k.statuses place) (sym c.self.view_is)
    ∙ (slice_get-get_or ms place last within
    ∙ ap (λ (s : PortStatus). Some s)
    (ap (λ (l : List PortStatus). get_or l place last) (sym c.deref.ensures.value) ∙ sym c.in-Some.ensures.lookup.1))) in
    let apart : c.args.status ≡ last → ⊥ = search rules in
    (last, there, apart)
